-- The script over the generated tables: a line for each statement.
use Rattle.std.specs.Prelude.{ℕ, List, ◌++◌, codes}

-- the three tables
abbrev pub tables_made : List ℕ
tables_made =
    codes "CREATE TABLE hotel (name TEXT, price INT, city INT) FROM 'hotel.csv';\n"
    ++ codes "CREATE TABLE restaurant (name TEXT, city INT, rating INT) FROM 'restaurant.csv';\n"
    ++ codes "CREATE TABLE museum (name TEXT, city INT, fame INT) FROM 'museum.csv';\n"

-- a predicate for each of them, and an index for two of these
abbrev pub predicates_made : List ℕ
predicates_made =
    codes "CREATE PREDICATE cheap (price INT) MAX 300 COST 2 AS 340 - price;\n"
    ++ codes "CREATE PREDICATE tasty (rating INT) MAX 100 AS rating;\n"
    ++ codes "CREATE PREDICATE famous (fame INT) MAX 200 COST 50 AS fame;\n"
    ++ codes "CREATE RANK INDEX hotel_cheap ON hotel (cheap(price));\n"
    ++ codes "CREATE RANK INDEX restaurant_tasty ON restaurant (tasty(rating));\n"

-- the best ten hotels with a restaurant and a museum in one city, without the end of the line
abbrev pub search_made : List ℕ
search_made =
    codes "SELECT h.name, r.name, m.name FROM hotel h, restaurant r, museum m"
    ++ codes " WHERE h.city = r.city AND r.city = m.city"
    ++ codes " ORDER BY cheap(h.price) + 3 * tasty(r.rating) + 2 * famous(m.fame) LIMIT 10;"

-- the tables, the predicates, the indexes, the search, and the search once more for its plan and what its nodes did
abbrev pub script_text : List ℕ
script_text =
    tables_made ++ predicates_made ++ search_made ++ codes "\n" ++ codes "EXPLAIN ANALYZE " ++ search_made ++ codes "\n"
