-- Made by .ci/lists: change the sources and run it again.
-- Each public function's contract determines what is returned and what is left of what was lent, on any input: two results
-- that it allows are equal (Forms). Assumes nothing.
use mathlib.Core.Path.{sym, ◌∙◌}
use Rattle.contracts.proofs.Forms.{Answers, Leaves, Determines, Decides, both, both_are}
use Rattle.mps.proofs.refusals.Refusal.number.Reads as mps_refusals_Refusal_number
use Rattle.sums.proofs.sum.Reads as sums_sum
use Rattle.sums.proofs.to_store.Reads as sums_to_store
use Rattle.numbers.proofs.byte.Reads as numbers_byte
use Rattle.numbers.proofs.wide.Reads as numbers_wide
use Rattle.numbers.proofs.le16.Reads as numbers_le16
use Rattle.numbers.proofs.le32.Reads as numbers_le32
use Rattle.numbers.proofs.le64.Reads as numbers_le64
use Rattle.numbers.proofs.put16.Reads as numbers_put16
use Rattle.numbers.proofs.put32.Reads as numbers_put32
use Rattle.numbers.proofs.put64.Reads as numbers_put64
use Rattle.slices.proofs.same.Reads as slices_same
use Rattle.slices.proofs.copy.Reads as slices_copy
use Rattle.slices.proofs.clear.Reads as slices_clear
use Rattle.slices.proofs.raise.Reads as slices_raise
use Rattle.tables.proofs.names.is_bus_name.Reads as tables_names_is_bus_name
use Rattle.tables.proofs.names.is_pci.Reads as tables_names_is_pci
use Rattle.tables.proofs.names.quick.Reads as tables_names_quick
use Rattle.tables.proofs.ranges.ranges.Reads as tables_ranges_ranges
use Rattle.sets.proofs.put.Reads as sets_put
use Rattle.sets.proofs.contains.Reads as sets_contains
use Rattle.sets.proofs.count.Reads as sets_count
use Rattle.sets.proofs.lowest.Reads as sets_lowest
use Rattle.roll.proofs.has.Reads as roll_has
use Rattle.roll.proofs.put.Reads as roll_put
use Rattle.entries.proofs.size.Reads as entries_size
use Rattle.entries.proofs.count.Reads as entries_count
use Rattle.lengths.proofs.base.Reads as lengths_base
use Rattle.lengths.proofs.extended.Reads as lengths_extended
use Rattle.lengths.proofs.count.Reads as lengths_count
use Rattle.header.proofs.check.Reads as header_check
use Rattle.header.proofs.refusal.Reads as header_refusal
use Rattle.header.proofs.wrong_extended.Reads as header_wrong_extended
use Rattle.runs.proofs.size_of.Reads as runs_size_of
use Rattle.sections.proofs.base.Reads as sections_base
use Rattle.extension.proofs.extended.Reads as extension_extended
use Rattle.apics.proofs.wrong_processors.Reads as apics_wrong_processors
use Rattle.apics.proofs.wrong_io_apics.Reads as apics_wrong_io_apics
use Rattle.buses.proofs.wrong.Reads as buses_wrong
use Rattle.buses.proofs.is_listed.Reads as buses_is_listed
use Rattle.buses.proofs.is_pci.Reads as buses_is_pci
use Rattle.buses.proofs.pci.Reads as buses_pci
use Rattle.interrupts.proofs.wrong_io.Reads as interrupts_wrong_io
use Rattle.interrupts.proofs.wrong_local.Reads as interrupts_wrong_local
use Rattle.spaces.proofs.wrong_mappings.Reads as spaces_wrong_mappings
use Rattle.spaces.proofs.wrong_modifiers.Reads as spaces_wrong_modifiers
use Rattle.parents.proofs.wrong.Reads as parents_wrong
use Rattle.judge.proofs.judge.Reads as judge_judge
use Rattle.judge.proofs.refusal.Reads as judge_refusal
use Rattle.judge.proofs.examine.Reads as judge_examine
use Rattle.regions.proofs.row.Reads as regions_row
use Rattle.regions.specs.contracts.place_of as regions_place_of
use Rattle.regions.proofs.place_in.Reads as regions_place_in
use Rattle.regions.proofs.holding.Reads as regions_holding
use Rattle.regions.specs.contracts.rows.of_dump as regions_rows_of_dump
use Rattle.regions.specs.contracts.rows.again as regions_rows_again
use Rattle.contents.proofs.sound.Reads as contents_sound
use Rattle.pointers.proofs.search.Reads as pointers_search
use Rattle.finding.proofs.find.Reads as finding_find
use Rattle.finding.proofs.pointer.Reads as finding_pointer
use Rattle.dump.proofs.read.Reads as dump_read
use Rattle.reader.specs.contracts.open as reader_open
use Rattle.reader.specs.contracts.here as reader_here
use Rattle.reader.specs.contracts.next as reader_next
use Rattle.reader.proofs.entry.Reads as reader_entry
use Rattle.reader.proofs.after.Reads as reader_after
use Rattle.writer.proofs.write.Reads as writer_write
use Rattle.writer.proofs.parts.Reads as writer_parts
use Rattle.writer.proofs.fields.Reads as writer_fields
use Rattle.defaults.proofs.make.Reads as defaults_make
use Rattle.text.proofs.width.Reads as text_width
use Rattle.text.proofs.kept.Reads as text_kept
use Rattle.digits.proofs.hex.Reads as digits_hex
use Rattle.lines.proofs.entry.line.Reads as lines_entry_line
use Rattle.lines.proofs.frame.pointer.Reads as lines_frame_pointer
use Rattle.lines.proofs.frame.table.Reads as lines_frame_table
use Rattle.lines.proofs.frame.end.Reads as lines_frame_end
use Rattle.lines.proofs.frame.default.Reads as lines_frame_default
use Rattle.lines.proofs.frame.refused.Reads as lines_frame_refused
use Rattle.widths.proofs.base.Reads as widths_base
use Rattle.widths.proofs.extended.Reads as widths_extended
use Rattle.listing.proofs.list.Reads as listing_list
use Rattle.listing.proofs.full.Reads as listing_full
use Rattle.listing.proofs.print.Reads as listing_print
use Rattle.editor.proofs.edit.Reads as editor_edit
use Rattle.rows.proofs.read.Reads as rows_read
use Rattle.rows.proofs.latest.Reads as rows_latest
use Rattle.rows.proofs.find.Reads as rows_find
use Rattle.rows.proofs.run.Reads as rows_run
use Rattle.book.proofs.measure.Reads as book_measure
use Rattle.book.proofs.whole.Reads as book_whole
use Rattle.book.proofs.latest.Reads as book_latest
use Rattle.book.proofs.body.Reads as book_body
use Rattle.book.proofs.history.Reads as book_history
use Rattle.saving.proofs.save.Reads as saving_save
use Rattle.saving.proofs.restore.Reads as saving_restore
use Rattle.routes.proofs.io.Reads as routes_io
use Rattle.routes.proofs.local.Reads as routes_local
use Rattle.routes.proofs.slot.Reads as routes_slot
use Rattle.marks.proofs.gather.Reads as marks_gather
use Rattle.addresses.proofs.seen.Reads as addresses_seen
use Rattle.slots.proofs.list.Reads as slots_list
use Rattle.renumbering.proofs.renumber.Reads as renumbering_renumber
use Rattle.exports.proofs.ruxtajma_judge.Reads as ruxtajma_judge
use Rattle.exports.proofs.ruxtajma_parts.Reads as ruxtajma_parts
use Rattle.exports.proofs.ruxtajma_entry.Reads as ruxtajma_entry
use Rattle.exports.proofs.ruxtajma_read.Reads as ruxtajma_read
use Rattle.exports.proofs.ruxtajma_addresses.Reads as ruxtajma_addresses
use Rattle.exports.proofs.ruxtajma_list.Reads as ruxtajma_list
use Rattle.exports.proofs.ruxtajma_list_full.Reads as ruxtajma_list_full
use Rattle.exports.proofs.ruxtajma_default_table.Reads as ruxtajma_default_table
use Rattle.exports.proofs.ruxtajma_io_routes.Reads as ruxtajma_io_routes
use Rattle.exports.proofs.ruxtajma_local_routes.Reads as ruxtajma_local_routes
use Rattle.exports.proofs.ruxtajma_slot_routes.Reads as ruxtajma_slot_routes
use Rattle.exports.proofs.ruxtajma_slots.Reads as ruxtajma_slots
use Rattle.exports.proofs.ruxtajma_renumber.Reads as ruxtajma_renumber
use Rattle.exports.proofs.ruxtajma_address.Reads as ruxtajma_address
use Rattle.exports.proofs.ruxtajma_write.Reads as ruxtajma_write
use Rattle.exports.proofs.ruxtajma_edit.Reads as ruxtajma_edit
use Rattle.exports.proofs.ruxtajma_book.Reads as ruxtajma_book
use Rattle.exports.proofs.ruxtajma_latest.Reads as ruxtajma_latest
use Rattle.exports.proofs.ruxtajma_body.Reads as ruxtajma_body
use Rattle.exports.proofs.ruxtajma_history.Reads as ruxtajma_history
use Rattle.exports.proofs.ruxtajma_save.Reads as ruxtajma_save
use Rattle.exports.proofs.ruxtajma_restore.Reads as ruxtajma_restore

-- ---- mps

pub mps_refusals_Refusal_number_determined : Answers mps_refusals_Refusal_number.Post
mps_refusals_Refusal_number_determined κ a x y s t p q = p ∙ sym q

-- ---- sums

pub sums_sum_determined : Answers sums_sum.Post
sums_sum_determined κ a x y s t p q = p ∙ sym q

pub sums_to_store_determined : Answers sums_to_store.Post
sums_to_store_determined κ a x y s t p q = p ∙ sym q

-- ---- numbers

pub numbers_byte_determined : Answers numbers_byte.Post
numbers_byte_determined κ a x y s t p q = p ∙ sym q

pub numbers_wide_determined : Answers numbers_wide.Post
numbers_wide_determined κ a x y s t p q = p.0 ∙ sym q.0

pub numbers_le16_determined : Answers numbers_le16.Post
numbers_le16_determined κ a x y s t p q = p ∙ sym q

pub numbers_le32_determined : Answers numbers_le32.Post
numbers_le32_determined κ a x y s t p q = p ∙ sym q

pub numbers_le64_determined : Answers numbers_le64.Post
numbers_le64_determined κ a x y s t p q = p ∙ sym q

pub numbers_put16_determined : Leaves numbers_put16.Post (λ κ s. s.0.now)
numbers_put16_determined κ a x y s t p q = p ∙ sym q

pub numbers_put32_determined : Leaves numbers_put32.Post (λ κ s. s.0.now)
numbers_put32_determined κ a x y s t p q = p ∙ sym q

pub numbers_put64_determined : Leaves numbers_put64.Post (λ κ s. s.0.now)
numbers_put64_determined κ a x y s t p q = p ∙ sym q

-- ---- slices

pub slices_same_determined : Answers slices_same.Post
slices_same_determined κ a x y s t p q = p ∙ sym q

pub slices_copy_determined : Leaves slices_copy.Post (λ κ s. s.0.now)
slices_copy_determined κ a x y s t p q = p ∙ sym q

pub slices_clear_determined : Leaves slices_clear.Post (λ κ s. s.0.now)
slices_clear_determined κ a x y s t p q = p ∙ sym q

pub slices_raise_determined : Leaves slices_raise.Post (λ κ s. s.0.now)
slices_raise_determined κ a x y s t p q = p ∙ sym q

-- ---- tables

pub tables_names_is_bus_name_determined : Answers tables_names_is_bus_name.Post
tables_names_is_bus_name_determined κ a x y s t p q = p ∙ sym q

pub tables_names_is_pci_determined : Answers tables_names_is_pci.Post
tables_names_is_pci_determined κ a x y s t p q = p ∙ sym q

pub tables_names_quick_determined : Answers tables_names_quick.Post
tables_names_quick_determined κ a x y s t p q = p ∙ sym q

pub tables_ranges_ranges_determined : Answers tables_ranges_ranges.Post
tables_ranges_ranges_determined κ a x y s t p q = p ∙ sym q

-- ---- sets

pub sets_put_determined : Leaves sets_put.Post (λ κ s. s.0.now)
sets_put_determined κ a x y s t p q = p ∙ sym q

pub sets_contains_determined : Answers sets_contains.Post
sets_contains_determined κ a x y s t p q = p ∙ sym q

pub sets_count_determined : Answers sets_count.Post
sets_count_determined κ a x y s t p q = p ∙ sym q

pub sets_lowest_determined : Answers sets_lowest.Post
sets_lowest_determined κ a x y s t p q = p ∙ sym q

-- ---- roll

pub roll_has_determined : Answers roll_has.Post
roll_has_determined κ a x y s t p q = p ∙ sym q

pub roll_put_determined : Leaves roll_put.Post (λ κ s. s.0.now)
roll_put_determined κ a x y s t p q = p ∙ sym q

-- ---- entries

pub entries_size_determined : Answers entries_size.Post
entries_size_determined κ a x y s t p q = p ∙ sym q

pub entries_count_determined : Answers entries_count.Post
entries_count_determined κ a x y s t p q = p ∙ sym q

-- ---- lengths

pub lengths_base_determined : Answers lengths_base.Post
lengths_base_determined κ a x y s t p q = p ∙ sym q

pub lengths_extended_determined : Answers lengths_extended.Post
lengths_extended_determined κ a x y s t p q = p ∙ sym q

pub lengths_count_determined : Answers lengths_count.Post
lengths_count_determined κ a x y s t p q = p ∙ sym q

-- ---- header

pub header_check_determined : Answers header_check.Post
header_check_determined κ a x y s t p q = p ∙ sym q

pub header_refusal_determined : Answers header_refusal.Post
header_refusal_determined κ a x y s t p q = p ∙ sym q

pub header_wrong_extended_determined : Answers header_wrong_extended.Post
header_wrong_extended_determined κ a x y s t p q = p ∙ sym q

-- ---- runs

pub runs_size_of_determined : Answers runs_size_of.Post
runs_size_of_determined κ a x y s t p q = p ∙ sym q

-- ---- sections

pub sections_base_determined : Answers sections_base.Post
sections_base_determined κ a x y s t p q = p ∙ sym q

-- ---- extension

pub extension_extended_determined : Answers extension_extended.Post
extension_extended_determined κ a x y s t p q = p ∙ sym q

-- ---- apics

pub apics_wrong_processors_determined : Determines apics_wrong_processors.Post (λ κ s. s.0.now)
apics_wrong_processors_determined κ a x y s t p q = (p.0 ∙ sym q.0, p.1 ∙ sym q.1)

pub apics_wrong_io_apics_determined : Determines apics_wrong_io_apics.Post (λ κ s. s.0.now)
apics_wrong_io_apics_determined κ a x y s t p q = (p.0 ∙ sym q.0, p.1 ∙ sym q.1)

-- ---- buses

pub buses_wrong_determined : Determines buses_wrong.Post (λ κ s. s.0.now)
buses_wrong_determined κ a x y s t p q = (p.0 ∙ sym q.0, p.1 ∙ sym q.1)

pub buses_is_listed_determined : Answers buses_is_listed.Post
buses_is_listed_determined κ a x y s t p q = p ∙ sym q

pub buses_is_pci_determined : Answers buses_is_pci.Post
buses_is_pci_determined κ a x y s t p q = p ∙ sym q

pub buses_pci_determined : Leaves buses_pci.Post (λ κ s. s.0.now)
buses_pci_determined κ a x y s t p q = p ∙ sym q

-- ---- interrupts

pub interrupts_wrong_io_determined : Answers interrupts_wrong_io.Post
interrupts_wrong_io_determined κ a x y s t p q = p ∙ sym q

pub interrupts_wrong_local_determined : Answers interrupts_wrong_local.Post
interrupts_wrong_local_determined κ a x y s t p q = p ∙ sym q

-- ---- spaces

pub spaces_wrong_mappings_determined : Answers spaces_wrong_mappings.Post
spaces_wrong_mappings_determined κ a x y s t p q = p ∙ sym q

pub spaces_wrong_modifiers_determined : Answers spaces_wrong_modifiers.Post
spaces_wrong_modifiers_determined κ a x y s t p q = p ∙ sym q

-- ---- parents

pub parents_wrong_determined : Answers parents_wrong.Post
parents_wrong_determined κ a x y s t p q = p ∙ sym q

-- ---- judge

pub judge_judge_determined : Answers judge_judge.Post
judge_judge_determined κ a x y s t p q = p ∙ sym q

pub judge_refusal_determined : Answers judge_refusal.Post
judge_refusal_determined κ a x y s t p q = p ∙ sym q

pub judge_examine_determined : Answers judge_examine.Post
judge_examine_determined κ a x y s t p q = p ∙ sym q

-- ---- regions

pub regions_row_determined : Answers regions_row.Post
regions_row_determined κ a x y s t p q = p ∙ sym q

pub regions_place_of_determined : Decides regions_place_of.ended (λ M 𝓤 𝓛. regions_place_of.clauses 𝓛)
regions_place_of_determined M 𝓤 𝓛 mem run κs a g x y s t = both_are 𝓤 x y _

pub regions_place_in_determined : Answers regions_place_in.Post
regions_place_in_determined κ a x y s t p q = p ∙ sym q

pub regions_holding_determined : Answers regions_holding.Post
regions_holding_determined κ a x y s t p q = p ∙ sym q

pub regions_rows_of_dump_determined : Decides regions_rows_of_dump.ended (λ M 𝓤 𝓛. regions_rows_of_dump.clauses 𝓛)
regions_rows_of_dump_determined M 𝓤 𝓛 mem run κs a g x y s t = both_are 𝓤 x y _

pub regions_rows_again_determined : Decides regions_rows_again.ended (λ M 𝓤 𝓛. regions_rows_again.clauses 𝓛)
regions_rows_again_determined M 𝓤 𝓛 mem run κs a g x y s t = both_are 𝓤 x y _

-- ---- contents

pub contents_sound_determined : Answers contents_sound.Post
contents_sound_determined κ a x y s t p q = p ∙ sym q

-- ---- pointers

pub pointers_search_determined : Answers pointers_search.Post
pointers_search_determined κ a x y s t p q = p ∙ sym q

-- ---- finding

pub finding_find_determined : Answers finding_find.Post
finding_find_determined κ a x y s t p q = p ∙ sym q

pub finding_pointer_determined : Answers finding_pointer.Post
finding_pointer_determined κ a x y s t p q = p ∙ sym q

-- ---- dump

pub dump_read_determined : Answers dump_read.Post
dump_read_determined κ a x y s t p q = p ∙ sym q

-- ---- reader

pub reader_open_determined : Decides reader_open.ended (λ M 𝓤 𝓛. reader_open.clauses 𝓛)
reader_open_determined M 𝓤 𝓛 mem run κs a g x y s t = both_are 𝓤 x y _

pub reader_here_determined : Decides reader_here.ended (λ M 𝓤 𝓛. reader_here.clauses 𝓛)
reader_here_determined M 𝓤 𝓛 mem run κs a g x y s t = both_are 𝓤 x y _

pub reader_next_determined : Decides reader_next.ended (λ M 𝓤 𝓛. reader_next.clauses 𝓛)
reader_next_determined M 𝓤 𝓛 mem run κs a g x y s t = both_are 𝓤 x y _

pub reader_entry_determined : Answers reader_entry.Post
reader_entry_determined κ a x y s t p q = p ∙ sym q

pub reader_after_determined : Answers reader_after.Post
reader_after_determined κ a x y s t p q = p ∙ sym q

-- ---- writer

pub writer_write_determined : Determines writer_write.Post (λ κ s. s.1.1.1.0.now)
writer_write_determined κ a x y s t p q = (p.0 ∙ sym q.0, p.1 ∙ sym q.1)

pub writer_parts_determined : Answers writer_parts.Post
writer_parts_determined κ a x y s t p q = p ∙ sym q

pub writer_fields_determined : Answers writer_fields.Post
writer_fields_determined κ a x y s t p q = p ∙ sym q

-- ---- defaults

pub defaults_make_determined : Determines defaults_make.Post (λ κ s. s.1.1.0.now)
defaults_make_determined κ a x y s t p q = (p.0 ∙ sym q.0, p.1 ∙ sym q.1)

-- ---- text

pub text_width_determined : Answers text_width.Post
text_width_determined κ a x y s t p q = p.0 ∙ sym q.0

pub text_kept_determined : Answers text_kept.Post
text_kept_determined κ a x y s t p q = p ∙ sym q

-- ---- digits

pub digits_hex_determined : Answers digits_hex.Post
digits_hex_determined κ a x y s t p q = p ∙ sym q

-- ---- lines

pub lines_entry_line_determined : Determines lines_entry_line.Post (λ κ s. s.0.now)
lines_entry_line_determined κ a x y s t p q = (p.0 ∙ sym q.0, p.1 ∙ sym q.1)

pub lines_frame_pointer_determined : Determines lines_frame_pointer.Post (λ κ s. s.0.now)
lines_frame_pointer_determined κ a x y s t p q = (p.0 ∙ sym q.0, p.1 ∙ sym q.1)

pub lines_frame_table_determined : Determines lines_frame_table.Post (λ κ s. s.0.now)
lines_frame_table_determined κ a x y s t p q = (p.0 ∙ sym q.0, p.1 ∙ sym q.1)

pub lines_frame_end_determined : Determines lines_frame_end.Post (λ κ s. s.0.now)
lines_frame_end_determined κ a x y s t p q = (p.0 ∙ sym q.0, p.1 ∙ sym q.1)

pub lines_frame_default_determined : Determines lines_frame_default.Post (λ κ s. s.0.now)
lines_frame_default_determined κ a x y s t p q = (p.0 ∙ sym q.0, p.1 ∙ sym q.1)

pub lines_frame_refused_determined : Determines lines_frame_refused.Post (λ κ s. s.0.now)
lines_frame_refused_determined κ a x y s t p q = (p.0 ∙ sym q.0, p.1 ∙ sym q.1)

-- ---- widths

pub widths_base_determined : Answers widths_base.Post
widths_base_determined κ a x y s t p q = p ∙ sym q

pub widths_extended_determined : Answers widths_extended.Post
widths_extended_determined κ a x y s t p q = p ∙ sym q

-- ---- listing

pub listing_list_determined : Determines listing_list.Post (λ κ s. s.1.0.now)
listing_list_determined κ a x y s t p q = (p.0 ∙ sym q.0, p.1 ∙ sym q.1)

pub listing_full_determined : Determines listing_full.Post (λ κ s. s.1.1.0.now)
listing_full_determined κ a x y s t p q = (p.0 ∙ sym q.0, p.1 ∙ sym q.1)

pub listing_print_determined : Determines listing_print.Post (λ κ s. s.1.0.now)
listing_print_determined κ a x y s t p q = (p.0 ∙ sym q.0, p.1 ∙ sym q.1)

-- ---- editor

pub editor_edit_determined : Determines editor_edit.Post (λ κ s. s.0.now)
editor_edit_determined κ a x y s t p q = (p.0 ∙ sym q.0, p.1 ∙ sym q.1)

-- ---- rows

pub rows_read_determined : Answers rows_read.Post
rows_read_determined κ a x y s t p q = p ∙ sym q

pub rows_latest_determined : Answers rows_latest.Post
rows_latest_determined κ a x y s t p q = p ∙ sym q

pub rows_find_determined : Answers rows_find.Post
rows_find_determined κ a x y s t p q = p.0 ∙ sym q.0

pub rows_run_determined : Answers rows_run.Post
rows_run_determined κ a x y s t p q = p ∙ sym q

-- ---- book

pub book_measure_determined : Answers book_measure.Post
book_measure_determined κ a x y s t p q = p ∙ sym q

pub book_whole_determined : Answers book_whole.Post
book_whole_determined κ a x y s t p q = p ∙ sym q

pub book_latest_determined : Answers book_latest.Post
book_latest_determined κ a x y s t p q = p ∙ sym q

pub book_body_determined : Answers book_body.Post
book_body_determined κ a x y s t p q = p ∙ sym q

pub book_history_determined : Determines book_history.Post (λ κ s. s.1.0.now)
book_history_determined κ a x y s t p q = (p.0 ∙ sym q.0, p.1 ∙ sym q.1)

-- ---- saving

pub saving_save_determined : Determines saving_save.Post (λ κ s. s.0.now)
saving_save_determined κ a x y s t p q = (p.0 ∙ sym q.0, p.1 ∙ sym q.1)

pub saving_restore_determined : Determines saving_restore.Post (λ κ s. s.0.now)
saving_restore_determined κ a x y s t p q = (p.0 ∙ sym q.0, p.1 ∙ sym q.1)

-- ---- routes

pub routes_io_determined : Determines routes_io.Post (λ κ s. s.1.1.1.1.0.now)
routes_io_determined κ a x y s t p q = (p.0 ∙ sym q.0, p.1 ∙ sym q.1)

pub routes_local_determined : Determines routes_local.Post (λ κ s. s.1.1.1.1.0.now)
routes_local_determined κ a x y s t p q = (p.0 ∙ sym q.0, p.1 ∙ sym q.1)

pub routes_slot_determined : Determines routes_slot.Post (λ κ s. s.1.1.1.1.0.now)
routes_slot_determined κ a x y s t p q = (p.0 ∙ sym q.0, p.1 ∙ sym q.1)

-- ---- marks

pub marks_gather_determined : Leaves marks_gather.Post (λ κ s. both s.0.now (both s.1.0.now s.1.1.0.now))
marks_gather_determined κ a x y s t p q = λ i. ((p.0 ∙ sym q.0) i, ((p.1.0 ∙ sym q.1.0) i, (p.1.1 ∙ sym q.1.1) i))

-- ---- addresses

pub addresses_seen_determined : Answers addresses_seen.Post
addresses_seen_determined κ a x y s t p q = p ∙ sym q

-- ---- slots

pub slots_list_determined : Determines slots_list.Post (λ κ s. s.1.0.now)
slots_list_determined κ a x y s t p q = (p.0 ∙ sym q.0, p.1 ∙ sym q.1)

-- ---- renumbering

pub renumbering_renumber_determined : Determines renumbering_renumber.Post (λ κ s. s.1.0.now)
renumbering_renumber_determined κ a x y s t p q = (p.0 ∙ sym q.0, p.1 ∙ sym q.1)

-- ---- exports

pub ruxtajma_judge_determined : Answers ruxtajma_judge.Post
ruxtajma_judge_determined κ a x y s t p q = p ∙ sym q

pub ruxtajma_parts_determined : Answers ruxtajma_parts.Post
ruxtajma_parts_determined κ a x y s t p q = p ∙ sym q

pub ruxtajma_entry_determined : Answers ruxtajma_entry.Post
ruxtajma_entry_determined κ a x y s t p q = p ∙ sym q

pub ruxtajma_read_determined : Answers ruxtajma_read.Post
ruxtajma_read_determined κ a x y s t p q = p ∙ sym q

pub ruxtajma_addresses_determined : Answers ruxtajma_addresses.Post
ruxtajma_addresses_determined κ a x y s t p q = p ∙ sym q

pub ruxtajma_list_determined : Determines ruxtajma_list.Post (λ κ s. s.1.0.now)
ruxtajma_list_determined κ a x y s t p q = (p.0 ∙ sym q.0, p.1 ∙ sym q.1)

pub ruxtajma_list_full_determined : Determines ruxtajma_list_full.Post (λ κ s. s.1.1.0.now)
ruxtajma_list_full_determined κ a x y s t p q = (p.0 ∙ sym q.0, p.1 ∙ sym q.1)

pub ruxtajma_default_table_determined : Determines ruxtajma_default_table.Post (λ κ s. s.1.1.0.now)
ruxtajma_default_table_determined κ a x y s t p q = (p.0 ∙ sym q.0, p.1 ∙ sym q.1)

pub ruxtajma_io_routes_determined : Determines ruxtajma_io_routes.Post (λ κ s. s.1.1.1.1.0.now)
ruxtajma_io_routes_determined κ a x y s t p q = (p.0 ∙ sym q.0, p.1 ∙ sym q.1)

pub ruxtajma_local_routes_determined : Determines ruxtajma_local_routes.Post (λ κ s. s.1.1.1.1.0.now)
ruxtajma_local_routes_determined κ a x y s t p q = (p.0 ∙ sym q.0, p.1 ∙ sym q.1)

pub ruxtajma_slot_routes_determined : Determines ruxtajma_slot_routes.Post (λ κ s. s.1.1.1.1.0.now)
ruxtajma_slot_routes_determined κ a x y s t p q = (p.0 ∙ sym q.0, p.1 ∙ sym q.1)

pub ruxtajma_slots_determined : Determines ruxtajma_slots.Post (λ κ s. s.1.0.now)
ruxtajma_slots_determined κ a x y s t p q = (p.0 ∙ sym q.0, p.1 ∙ sym q.1)

pub ruxtajma_renumber_determined : Determines ruxtajma_renumber.Post (λ κ s. s.1.0.now)
ruxtajma_renumber_determined κ a x y s t p q = (p.0 ∙ sym q.0, p.1 ∙ sym q.1)

pub ruxtajma_address_determined : Answers ruxtajma_address.Post
ruxtajma_address_determined κ a x y s t p q = p ∙ sym q

pub ruxtajma_write_determined : Determines ruxtajma_write.Post (λ κ s. s.1.1.1.1.1.1.1.1.0.now)
ruxtajma_write_determined κ a x y s t p q = (p.0 ∙ sym q.0, p.1 ∙ sym q.1)

pub ruxtajma_edit_determined : Determines ruxtajma_edit.Post (λ κ s. s.0.now)
ruxtajma_edit_determined κ a x y s t p q = (p.0 ∙ sym q.0, p.1 ∙ sym q.1)

pub ruxtajma_book_determined : Answers ruxtajma_book.Post
ruxtajma_book_determined κ a x y s t p q = p ∙ sym q

pub ruxtajma_latest_determined : Answers ruxtajma_latest.Post
ruxtajma_latest_determined κ a x y s t p q = p ∙ sym q

pub ruxtajma_body_determined : Answers ruxtajma_body.Post
ruxtajma_body_determined κ a x y s t p q = p ∙ sym q

pub ruxtajma_history_determined : Determines ruxtajma_history.Post (λ κ s. s.1.0.now)
ruxtajma_history_determined κ a x y s t p q = (p.0 ∙ sym q.0, p.1 ∙ sym q.1)

pub ruxtajma_save_determined : Determines ruxtajma_save.Post (λ κ s. s.0.now)
ruxtajma_save_determined κ a x y s t p q = (p.0 ∙ sym q.0, p.1 ∙ sym q.1)

pub ruxtajma_restore_determined : Determines ruxtajma_restore.Post (λ κ s. s.0.now)
ruxtajma_restore_determined κ a x y s t p q = (p.0 ∙ sym q.0, p.1 ∙ sym q.1)
