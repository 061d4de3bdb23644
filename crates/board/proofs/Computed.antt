-- Made by .ci/lists: change the sources and run it again.
-- Computing with the definitions: `unfolding computed` opens every definition of mps at once, so that a claim over closed
-- bytes is settled by computing both sides. What a definition's own `unfolding` line names is opened with it.
use Prim.Native.Nat.{ℕ}
use Rattle.mps.specs.Words.{text, bit, same, among, twice, keep, any, every, last, each, joined, rising, cut, exactly}
use Rattle.mps.specs.Refusals.{refusal}
use Rattle.mps.specs.Reasons.{refusal_numbered}
use Rattle.mps.specs.Rooms.{too_small, room_rules, lent_refusal, lent_left, room_refusal, fitted, fit_left}
use Rattle.mps.specs.Sums.{total, sum256, to_store}
use Rattle.mps.specs.Numbers.{le, bytes}
use Rattle.mps.specs.Layout.{known_revision, extended_length, base_entry_length, base_entries, extended_entries, own_length}
use Rattle.mps.specs.Buses.{bus_names, is_bus_name}
use Rattle.mps.specs.Ranges.{isa, vga, ranges_at, in_list, printed_isa, printed_vga}
use Rattle.mps.specs.Dump.{regions_from, regions, kind_rule, sound_region, share, overlap, kind_twice, ends_with_last, sound_dump, holds, holding}
use Rattle.mps.specs.Pointer.{addressed, candidates, good, searched, pointers, pointer, is_default, no_pointer, wrong_pointer_revision, wrong_feature, table_start, table_end, table_in}
use Rattle.mps.specs.Table.{header_cut, wrong_signature, wrong_base_length, wrong_base_sum, wrong_revision, entry_fault, walk_from, walk_fault, wrong_type, cut_or_miscounted, descending_type, extended_fault, extended_from, wrong_extended_part, wrong_extended}
use Rattle.mps.specs.Rules.{enabled_of, ids_of, enabled_ids, bootstraps, wrong_processors, unknown_name, wrong_buses, misplaced, wrong_io_apics, is_listed, wrong_interrupt, wrong_input, wrong_on_side, wrong_interrupts, wrong_mapping, wrong_hierarchy, wrong_modifier, links, parents_of, climbs_to, on_circle, circle, wrong_spaces}
use Rattle.mps.specs.Sections.{rows, span, base_after, extended_after, sections}
use Rattle.mps.specs.Judge.{table_rules, table_refusal, pointer_rules, dump_rules, dump_refusal, judged, examined, told, pointed, held}
use Rattle.mps.specs.Routes.{asked, matches, names, pair, pairs_to, routes, routes_of, wrong_line, line_rules, route_refusal, routed, routes_left}
use Rattle.mps.specs.Slots.{names_slot, is_pci, pci_buses, on_pci, wired_from, slot_routes, slot_routes_of, wrong_slot, slot_rules, slot_refusal, slot_routed, slot_routes_left, slot_named, slots, slots_of, slots_refusal, slots_listed, slots_left}
use Rattle.mps.specs.Renumber.{shares, kept_ids, free, lowest_free, numbers_from, finds_none, held_ids, new_numbers, none_free, used_numbers, bits_set, new_numbers_of, renumber_rules, renumber_refusal, renumbered, renumber_left}
use Rattle.mps.specs.Addresses.{covers, touches, takes_away, adds, covers_or_adds, has_entry, subtractive, says, another, others, claims, silent, leaves, climb, seen_by, wrong_space, address_rules, seen}
use Rattle.mps.specs.Listing.{digits, decimal_digit, hex_digit, decimal_width, decimal, hex, line, unpadded, on_off, boot_ap, interrupt_name, cpu_line, bus_line, io_apic_line, interrupt_line, base_line, map_line, tree_line, mod_line, skip_line, extended_line, default_line, pointer_line, table_line, end_line, table_lines, listing, refused_line, program_output, list_refusal, listed, list_left, printed, print_left}
use Rattle.mps.specs.Writing.{fields_of, parts_of, parted, header, extended_sum_of, base_sum_of, image, part_rules, early_refusal, write_refusal, written, finished, write_left}
use Rattle.mps.specs.Defaults.{ISA, EISA, MCA, PCI, table5_1, configuration, table5_2, table5_3, cell, processor_entry, bus_entries, io_apic_entry, interrupt_entry, wired, inputs, default_entries, default_fields, default_parts, default_table, no_default, make_refusal, made, make_left, full_listing, wrong_boot, full_rules, full_refusal, full_listed, full_left}
use Rattle.mps.specs.Edits.{standing, before, offset_of, sealed, edited_table, no_place, other_shape, changed, inner_refusal, edit_rules, edit_refusal, edited, edit_left, run, run_answers}
use Rattle.mps.specs.Reader.{base_step, extended_step, size_at, entry_at, next_place, found}
use Rattle.mps.specs.Book.{of_machine, latest, editions_run, body_rules, body_refusal, good_body, bodies_at, rows_from, book_of, row_at, rows_at, rows_of, begins, good_book, bad_book}
use Rattle.mps.specs.History.{book_rules, book_refusal, booked, latest_told, is_edition, holds_edition, edition_body, edition_start, edition_rules, edition_refusal, body_told, history_of, history_refusal, history_told, history_left}
use Rattle.mps.specs.Saving.{new_row, grown_book, not_latest, book_full, addition_rules, grown, addition, ask_rules, add_refusal, added, add_left, add_run, add_answers}

of_words : ℕ
unfolding text bit same among twice keep any every last each joined rising cut exactly
of_words = 0

of_refusals : ℕ
unfolding refusal
of_refusals = 0

of_reasons : ℕ
unfolding refusal_numbered
of_reasons = 0

of_rooms : ℕ
unfolding too_small room_rules lent_refusal lent_left room_refusal fitted fit_left
of_rooms = 0

of_sums : ℕ
unfolding total sum256 to_store
of_sums = 0

of_numbers : ℕ
unfolding le bytes
of_numbers = 0

of_layout : ℕ
unfolding known_revision extended_length base_entry_length base_entries extended_entries own_length
of_layout = 0

of_buses : ℕ
unfolding bus_names is_bus_name
of_buses = 0

of_ranges : ℕ
unfolding isa vga ranges_at in_list printed_isa printed_vga
of_ranges = 0

of_dump : ℕ
unfolding regions_from regions kind_rule sound_region share overlap kind_twice ends_with_last sound_dump holds holding
of_dump = 0

of_pointer : ℕ
unfolding addressed candidates good searched pointers pointer is_default no_pointer wrong_pointer_revision wrong_feature table_start table_end table_in
of_pointer = 0

of_table : ℕ
unfolding header_cut wrong_signature wrong_base_length wrong_base_sum wrong_revision entry_fault walk_from walk_fault wrong_type cut_or_miscounted descending_type extended_fault extended_from wrong_extended_part wrong_extended
of_table = 0

of_rules : ℕ
unfolding enabled_of ids_of enabled_ids bootstraps wrong_processors unknown_name wrong_buses misplaced wrong_io_apics is_listed wrong_interrupt wrong_input wrong_on_side wrong_interrupts wrong_mapping wrong_hierarchy wrong_modifier links parents_of climbs_to on_circle circle wrong_spaces
of_rules = 0

of_sections : ℕ
unfolding rows span base_after extended_after sections
of_sections = 0

of_judge : ℕ
unfolding table_rules table_refusal pointer_rules dump_rules dump_refusal judged examined told pointed held
of_judge = 0

of_routes : ℕ
unfolding asked matches names pair pairs_to routes routes_of wrong_line line_rules route_refusal routed routes_left
of_routes = 0

of_slots : ℕ
unfolding names_slot is_pci pci_buses on_pci wired_from slot_routes slot_routes_of wrong_slot slot_rules slot_refusal slot_routed slot_routes_left slot_named slots slots_of slots_refusal slots_listed slots_left
of_slots = 0

of_renumber : ℕ
unfolding shares kept_ids free lowest_free numbers_from finds_none held_ids new_numbers none_free used_numbers bits_set new_numbers_of renumber_rules renumber_refusal renumbered renumber_left
of_renumber = 0

of_addresses : ℕ
unfolding covers touches takes_away adds covers_or_adds has_entry subtractive says another others claims silent leaves climb seen_by wrong_space address_rules seen
of_addresses = 0

of_listing : ℕ
unfolding digits decimal_digit hex_digit decimal_width decimal hex line unpadded on_off boot_ap interrupt_name cpu_line bus_line io_apic_line interrupt_line base_line map_line tree_line mod_line skip_line extended_line default_line pointer_line table_line end_line table_lines listing refused_line program_output list_refusal listed list_left printed print_left
of_listing = 0

of_writing : ℕ
unfolding fields_of parts_of parted header extended_sum_of base_sum_of image part_rules early_refusal write_refusal written finished write_left
of_writing = 0

of_defaults : ℕ
unfolding ISA EISA MCA PCI table5_1 configuration table5_2 table5_3 cell processor_entry bus_entries io_apic_entry interrupt_entry wired inputs default_entries default_fields default_parts default_table no_default make_refusal made make_left full_listing wrong_boot full_rules full_refusal full_listed full_left
of_defaults = 0

of_edits : ℕ
unfolding standing before offset_of sealed edited_table no_place other_shape changed inner_refusal edit_rules edit_refusal edited edit_left run run_answers
of_edits = 0

of_reader : ℕ
unfolding base_step extended_step size_at entry_at next_place found
of_reader = 0

of_book : ℕ
unfolding of_machine latest editions_run body_rules body_refusal good_body bodies_at rows_from book_of row_at rows_at rows_of begins good_book bad_book
of_book = 0

of_history : ℕ
unfolding book_rules book_refusal booked latest_told is_edition holds_edition edition_body edition_start edition_rules edition_refusal body_told history_of history_refusal history_told history_left
of_history = 0

of_saving : ℕ
unfolding new_row grown_book not_latest book_full addition_rules grown addition ask_rules add_refusal added add_left add_run add_answers
of_saving = 0

unfoldable pub computed : ℕ
unfolding of_words of_refusals of_reasons of_rooms of_sums of_numbers of_layout of_buses of_ranges of_dump of_pointer of_table of_rules of_sections of_judge of_routes of_slots of_renumber of_addresses of_listing of_writing of_defaults of_edits of_reader of_book of_history of_saving
computed = 0
