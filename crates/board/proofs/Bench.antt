-- The other calls on the bench board, computed: what the twelve rows and the listing do not touch. Assumes nothing.
use mathlib.Core.Path.{◌≡◌, refl}
use mathlib.Core.List.{[], ◌∷◌, ◌++◌}
use lib.ListN.{set, replicate}
use Rattle.mps.specs.Words.{text, each}
use Rattle.mps.specs.Judge.{judged, examined}
use Rattle.mps.specs.Listing.{listed, list_left, program_output}
use Rattle.mps.specs.Rules.{local_side}
use Rattle.mps.specs.Routes.{question, routed, routes_left}
use Rattle.mps.specs.Addresses.{seen}
use Rattle.mps.specs.Writing.{Parts, fields_of, parts_of, parted, image, written, write_left}
use Rattle.mps.specs.Edits.{Edit, edited, edit_left, run_answers}
use Rattle.mps.specs.Reader.{found, next_place}
use Rattle.mps.specs.Answers.{judged_numbers, examined_numbers, lent_numbers, seen_numbers, parted_numbers, edited_numbers, found_numbers}
use Rattle.board.specs.Board.{table, dump, interrupt}
use Rattle.board.specs.Cases.{to_input9, dump_with_checksum}
use Rattle.board.specs.Printed.{printed}
use Rattle.board.proofs.Computed.{computed}

-- The judge accepts it.
pub board_judged : judged_numbers (judged table) ≡ 0 ∷ []
unfolding computed
board_judged = refl

-- Its sections: one processor behind the header, then one entry of each other type; no extended part.
pub board_examined : examined_numbers (examined table) ≡ 0 ∷ 64 ∷ 72 ∷ 80 ∷ 88 ∷ 96 ∷ 96 ∷ 96 ∷ 96 ∷ 96 ∷ []
unfolding computed
board_examined = refl

-- Its listing has 147 bytes: with two bytes more the room's end stays, with one byte less all of it does.
pub board_listed_count : lent_numbers (listed dump (replicate 149 0xee)) ≡ 0 ∷ 147 ∷ []
unfolding computed
board_listed_count = refl

pub board_listed_room : list_left dump (replicate 149 0xee) ≡ printed ++ (0xee ∷ 0xee ∷ [])
unfolding computed printed
board_listed_room = refl

pub board_listed_short : lent_numbers (listed dump (replicate 146 0xee)) ++ list_left dump (replicate 146 0xee) ≡ 19 ∷ replicate 146 0xee
unfolding computed
board_listed_short = refl

-- What the listing program writes: the listing, and for P11's dump the one line of its refusal.
pub board_program : program_output dump ≡ printed
unfolding computed printed
board_program = refl

pub board_program_refused : program_output (dump_with_checksum 0x80) ≡ text "refused 2\n"
unfolding computed
board_program_refused = refl

-- Writing the board's parts gives its bytes again, and leaves what lies past them.
pub board_written : image (parts_of table) ≡ table
unfolding computed
board_written = refl

pub board_room : write_left (parts_of table) (replicate 98 0xee) ≡ table ++ (0xee ∷ 0xee ∷ [])
unfolding computed
board_room = refl

pub board_count : lent_numbers (written (parts_of table) (replicate 98 0xee)) ≡ 0 ∷ 96 ∷ []
unfolding computed
board_count = refl

-- Without its entries the image is 44 bytes and refused with 14: they are left 0, and what lies past them stays. A room too
-- small stays whole.
abbrev bare : Parts
bare = record { fields = fields_of table; base = []; extended = [] }

pub board_refused : lent_numbers (written bare (replicate 46 0xee)) ++ write_left bare (replicate 46 0xee) ≡ 14 ∷ (replicate 44 0 ++ (0xee ∷ 0xee ∷ []))
unfolding computed
board_refused = refl

pub board_no_room : lent_numbers (written bare (replicate 43 0xee)) ++ write_left bare (replicate 43 0xee) ≡ 19 ∷ replicate 43 0xee
unfolding computed
board_no_room = refl

-- Its parts: twenty spaces, no OEM table, the local APICs at FEE00000h; the base entries end at 96, and there are no others.
pub board_fields :
    fields_of table
    ≡ record { oem = replicate 8 0x20; product = replicate 12 0x20; pointer = 0; size = 0; apic = 0xfee00000; reserved = 0 }
unfolding computed
board_fields = refl

pub board_parted : parted_numbers (parted table) ≡ 0 ∷ 96 ∷ 96 ∷ []
unfolding computed
board_parted = refl

-- The reader finds an entry of 20 bytes at 44 and none inside the header, walks the five entries, and stays at the end.
pub board_found : each found_numbers (each (found table) (43 ∷ 44 ∷ [])) ≡ (0 ∷ 0 ∷ []) ∷ (0 ∷ 20 ∷ []) ∷ []
unfolding computed
board_found = refl

pub board_walked : each (next_place table) (44 ∷ 64 ∷ 72 ∷ 80 ∷ 88 ∷ 96 ∷ []) ≡ 64 ∷ 72 ∷ 80 ∷ 88 ∷ 96 ∷ 96 ∷ []
unfolding computed
board_walked = refl

-- ExtINT of bus 0, IRQ 0, goes to every enabled processor, which is processor 0, at input 0.
pub board_local :
    lent_numbers (routed (question local_side 3 0 0) table (replicate 2 0xee)) ++ routes_left (question local_side 3 0 0) table (replicate 2 0xee)
    ≡ 0 ∷ 1 ∷ 0 ∷ 0 ∷ []
unfolding computed
board_local = refl

-- It declares no address of its bus.
pub board_undeclared : seen_numbers (seen table 0 0 0x100) ≡ 0 ∷ 2 ∷ 0 ∷ []
unfolding computed
board_undeclared = refl

-- A run of the same edit twice: done, then refused as changed.
pub board_run : each edited_numbers (run_answers table (to_input9 3 ∷ to_input9 3 ∷ [])) ≡ (0 ∷ []) ∷ (22 ∷ []) ∷ []
unfolding computed
board_run = refl

-- "An edit that judges, fails and keeps the new checksum": the interrupt of a bus that is not listed is refused with 23 and
-- 17, and no byte is changed.
abbrev to_bus7 : Edit
to_bus7 = record { place = 3; stated = interrupt; wanted = set interrupt 4 7 }

pub board_inner : edited_numbers (edited table to_bus7) ++ edit_left table to_bus7 ≡ 23 ∷ 17 ∷ table
unfolding computed
board_inner = refl
