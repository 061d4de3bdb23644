-- The line of an entry of either part of a table. Document 01: "entries follow in table order".
use Rattle.std.specs.Prelude.{ℕ, cond, List, [], ◌∷◌, ltb}
use Rattle.mps.specs.Words.{byte}
use Rattle.mps.specs.Layout.{Entry, type, first_extended_type}
use Rattle.mps.specs.Listing.{base_line, extended_line}

-- The line of an entry, by its type.
unfoldable pub entry_line : Entry → List ℕ
entry_line e = cond (ltb (type e) first_extended_type) (base_line e) (extended_line e)

-- All that the line of a base entry looks at: its first eight bytes, one that it lacks as 0.
unfoldable pub eight : Entry → Entry
eight e = byte e 0 ∷ byte e 1 ∷ byte e 2 ∷ byte e 3 ∷ byte e 4 ∷ byte e 5 ∷ byte e 6 ∷ byte e 7 ∷ []

-- The line of any bytes, of which a base entry may lack some: `entry_line` of an extended type, and of a base type where
-- there are eight bytes (`base_shown`, `extended_shown`).
unfoldable pub shown : Entry → List ℕ
shown e = cond (ltb (type e) first_extended_type) (base_line (eight e)) (extended_line e)
