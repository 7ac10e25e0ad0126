-- The generated tables. Each value of a row follows from the number of the run, the row's own number and, for the city, how
-- many cities there are.
use Rattle.std.specs.Prelude.{ℕ, ◌+◌, ◌*◌, ◌/◌, ◌%◌, max, List, ◌++◌, map, codes}
use Rattle.std.specs.List.{concat, range_with_len}
use Rattle.std.specs.Fmt.{decimal}

-- a city for every ten rows, rounded down, and at least one
abbrev pub city_count : ℕ → ℕ
city_count rows = max 1 (rows / 10)

-- a line of three cells: a letter and the number of the row, and two numbers
abbrev pub line : List ℕ → ℕ → ℕ → ℕ → List ℕ
line letter row second third = letter ++ decimal row ++ codes "," ++ decimal second ++ codes "," ++ decimal third ++ codes "\n"

-- a hotel: name, price from 40 to 339, and the number of its city
abbrev pub hotel_line : ℕ → ℕ → ℕ → List ℕ
hotel_line number cities row = line (codes "h") row (40 + (37 * row + 11 * number) % 300) ((row + number) % cities)

-- a restaurant: name, the number of its city, and rating from 0 to 100
abbrev pub restaurant_line : ℕ → ℕ → ℕ → List ℕ
restaurant_line number cities row = line (codes "r") row ((3 * row + number) % cities) ((13 * row + 5 * number) % 101)

-- a museum: name, the number of its city, and fame from 0 to 200
abbrev pub museum_line : ℕ → ℕ → ℕ → List ℕ
museum_line number cities row = line (codes "m") row ((7 * row + number) % cities) ((29 * row + 3 * number) % 201)

-- a table: its header, and the lines of this many rows, which are numbered from 1
abbrev pub table : List ℕ → (ℕ → List ℕ) → ℕ → List ℕ
table header line_of rows = header ++ concat (map line_of (range_with_len 1 rows))

-- the three tables of so many rows each
abbrev pub hotels : ℕ → ℕ → List ℕ
hotels number rows = table (codes "name,price,city\n") (hotel_line number (city_count rows)) rows

abbrev pub restaurants : ℕ → ℕ → List ℕ
restaurants number rows = table (codes "name,city,rating\n") (restaurant_line number (city_count rows)) rows

abbrev pub museums : ℕ → ℕ → List ℕ
museums number rows = table (codes "name,city,fame\n") (museum_line number (city_count rows)) rows
