-- A refusal by its number. Document 01, "Refusal numbers", and document 02 of what it adds: the code has a name for each, and the
-- paper's number is what C gets.
use Rattle.std.specs.Prelude.{ℕ, cond, List, [], ◌∷◌, eqb}
use Rattle.mps.specs.declared.refusals.Refusal.{Refusal}
use Rattle.mps.specs.declared.refusals.Refusal.TheVariants.{BadDump, NoPointer, PointerRevision, FeatureByte, HeaderCut, Signature, BaseLength, BaseSum, Revision}
use Rattle.mps.specs.declared.refusals.Refusal.TheVariants.{EntryType, EntryCut, EntryOrder, ExtendedPart, Processors, Buses, IoApics, Interrupts, Spaces}
use Rattle.mps.specs.declared.refusals.Refusal.TheVariants.{RoomTooSmall, NoEntry, OtherEntry, Changed, Query, Slot, NumbersUsedUp, BadBook, NotLatest, BookFull, NoDefault}

abbrev pub number_of_refusal : Refusal → ℕ
number_of_refusal BadDump = 1
number_of_refusal NoPointer = 2
number_of_refusal PointerRevision = 3
number_of_refusal FeatureByte = 4
number_of_refusal HeaderCut = 5
number_of_refusal Signature = 6
number_of_refusal BaseLength = 7
number_of_refusal BaseSum = 8
number_of_refusal Revision = 9
number_of_refusal EntryType = 10
number_of_refusal EntryCut = 11
number_of_refusal EntryOrder = 12
number_of_refusal ExtendedPart = 13
number_of_refusal Processors = 14
number_of_refusal Buses = 15
number_of_refusal IoApics = 16
number_of_refusal Interrupts = 17
number_of_refusal Spaces = 18
number_of_refusal RoomTooSmall = 19
number_of_refusal NoEntry = 20
number_of_refusal OtherEntry = 21
number_of_refusal Changed = 22
number_of_refusal Query = 24
number_of_refusal Slot = 25
number_of_refusal NumbersUsedUp = 26
number_of_refusal BadBook = 27
number_of_refusal NotLatest = 28
number_of_refusal BookFull = 29
number_of_refusal NoDefault = 30

-- Each of them, in the order of their numbers.
abbrev pub refusals : List Refusal
refusals =
    BadDump ∷ NoPointer ∷ PointerRevision ∷ FeatureByte
    ∷ HeaderCut ∷ Signature ∷ BaseLength ∷ BaseSum ∷ Revision
    ∷ EntryType ∷ EntryCut ∷ EntryOrder ∷ ExtendedPart
    ∷ Processors ∷ Buses ∷ IoApics ∷ Interrupts ∷ Spaces
    ∷ RoomTooSmall ∷ NoEntry ∷ OtherEntry ∷ Changed
    ∷ Query ∷ Slot ∷ NumbersUsedUp ∷ BadBook ∷ NotLatest ∷ BookFull ∷ NoDefault ∷ []

-- The one that has a number; of a number that none has, any.
abbrev pub named : ℕ → List Refusal → Refusal
named n [] = NoDefault
named n (r ∷ rs) = cond (eqb n (number_of_refusal r)) r (named n rs)

unfoldable pub refusal_numbered : ℕ → Refusal
refusal_numbered n = named n refusals
