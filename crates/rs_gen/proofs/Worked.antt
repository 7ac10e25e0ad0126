-- Tables worked by hand.
use Rattle.std.proofs.Common.{◌≡◌, [], ◌∷◌, refl}
use Rattle.std.specs.Fmt.{digits}
use Rattle.std.specs.Prelude.{codes, length}
use Rattle.rs_gen.specs.Script.{script_text}
use Rattle.rs_gen.specs.Tables.{city_count, hotel_line, hotels, museum_line, museums, restaurant_line, restaurants}

-- the bytes of a line, `h1,77,0` and a line feed
line_bytes : hotel_line 0 1 1 ≡ 104 ∷ 49 ∷ 44 ∷ 55 ∷ 55 ∷ 44 ∷ 48 ∷ 10 ∷ []
unfolding digits
line_bytes = refl

-- one row of each, by the number 0
one_hotel : hotels 0 1 ≡ codes "name,price,city\nh1,77,0\n"
unfolding digits
one_hotel = refl

one_restaurant : restaurants 0 1 ≡ codes "name,city,rating\nr1,0,13\n"
unfolding digits
one_restaurant = refl

one_museum : museums 0 1 ≡ codes "name,city,fame\nm1,0,29\n"
unfolding digits
one_museum = refl

-- the second city comes with the twentieth row
nine_rows : city_count 9 ≡ 1
nine_rows = refl

nineteen_rows : city_count 19 ≡ 1
nineteen_rows = refl

twenty_rows : city_count 20 ≡ 2
twenty_rows = refl

sixty_cities : city_count 600 ≡ 60
sixty_cities = refl

-- the last rows of 600, by the number 7
hotel_600 : hotel_line 7 (city_count 600) 600 ≡ codes "h600,117,7\n"
unfolding digits
hotel_600 = refl

restaurant_600 : restaurant_line 7 (city_count 600) 600 ≡ codes "r600,7,58\n"
unfolding digits
restaurant_600 = refl

museum_600 : museum_line 7 (city_count 600) 600 ≡ codes "m600,7,135\n"
unfolding digits
museum_600 = refl

-- the last rows of 2,000, by the greatest number
hotel_2000 : hotel_line 4294967295 (city_count 2000) 2000 ≡ codes "h2000,285,95\n"
unfolding digits
hotel_2000 = refl

restaurant_2000 : restaurant_line 4294967295 (city_count 2000) 2000 ≡ codes "r2000,95,75\n"
unfolding digits
restaurant_2000 = refl

museum_2000 : museum_line 4294967295 (city_count 2000) 2000 ≡ codes "m2000,95,7\n"
unfolding digits
museum_2000 = refl

-- the script has 912 bytes
script_length : length script_text ≡ 912
script_length = refl
