mod EndsFacts
