-- A table is judged by its own bytes: what lies past its extended end decides nothing. Assumes nothing.
use Prim.Native.Nat.{ℕ, ◌+◌, ◌≤◌, ◌<◌}
use mathlib.Core.Path.{◌≡◌, sym, ap, ◌∙◌}
use mathlib.Core.List.{List}
use native.Mathlib.Omega.{arith}
use lib.ListN.{length, take, drop}
use Rattle.mps.specs.Words.{byte, part, cut}
use Rattle.mps.specs.Numbers.{le}
use Rattle.mps.specs.Refusals.{refusal}
use Rattle.mps.specs.Layout.{header_size, base_length, base_bytes, base_part, extended_length, extended_end, extended_part, base_entry_length, extended_entry_length, base_entries, extended_entries}
use Rattle.mps.specs.Rules.{wrong_processors}
use Rattle.mps.specs.Writing.{fields_of, parts_of}
use Rattle.mps.specs.Judge.{table_rules, table_refusal}
use Rattle.laws.proofs.Parts.{alike_take, alike_byte, alike_part}
use Rattle.numbers.proofs.Laws.{alike_le}
use Rattle.accepted.proofs.Fields.{fields_by}
use Rattle.accepted.proofs.Sound.{Sound, sound_rest}

-- Two buffers that begin with the same table.
module _ (t u : List ℕ) (s : Sound t) (long : extended_end t ≤ length u) (same : take (extended_end t) u ≡ take (extended_end t) t) where
  header_inside : header_size ≤ extended_end t
  header_inside = omega (arith, s.low)

  agree_byte : (i : ℕ) → i < header_size → byte u i ≡ byte t i
  agree_byte i h = alike_byte (extended_end t) t u same i (omega (arith, header_inside))

  agree_le : (k at : ℕ) → at + k ≤ header_size → le k u at ≡ le k t at
  agree_le k at h = alike_le (extended_end t) t u same k at (omega (arith, header_inside))

  agree_part : (a b : ℕ) → b ≤ extended_end t → part a b u ≡ part a b t
  agree_part a b h = alike_part (extended_end t) t u same a b h

  pub agree_base : base_length u ≡ base_length t
  agree_base = agree_le 2 4 (omega arith)

  agree_extended : extended_length u ≡ extended_length t
  unfolding extended_length
  agree_extended = agree_le 2 40 (omega arith)

  pub agree_end : extended_end u ≡ extended_end t
  agree_end = rw (agree_base, agree_extended)

  agree_bytes : base_bytes u ≡ base_bytes t
  agree_bytes = rw agree_base (alike_take (extended_end t) t u same (base_length t) (omega arith))

  agree_base_part : base_part u ≡ base_part t
  agree_base_part = rw agree_base (agree_part header_size (base_length t) (omega arith))

  agree_extended_part : extended_part u ≡ extended_part t
  agree_extended_part = rw (agree_base, agree_extended) (agree_part (base_length t) (extended_end t) (omega arith))

  pub agree_entries : base_entries u ≡ base_entries t
  unfolding base_entries
  agree_entries = ap (cut base_entry_length 0) agree_base_part

  pub agree_extended_entries : extended_entries u ≡ extended_entries t
  unfolding extended_entries
  agree_extended_entries = ap (cut extended_entry_length 0) agree_extended_part

  pub agree_sound : Sound u
  agree_sound =
      record {
        long = omega (arith, header_inside, long);
        signed = alike_take (extended_end t) t u same 4 (omega (arith, header_inside)) ∙ s.signed;
        low = rw agree_base s.low;
        most = rw agree_base s.most;
        inside = rw agree_base (omega (arith, long));
        sum = rw agree_bytes s.sum;
        revised = agree_byte 6 (omega arith) ∙ s.revised;
        walked = rw agree_entries s.walked;
        counted = rw (agree_entries, agree_le 2 34 (omega arith)) s.counted;
        extended_most = rw agree_extended s.extended_most;
        extended_inside = rw agree_end long;
        extended_sum = rw (agree_byte 42 (omega arith), agree_extended_part) s.extended_sum;
        extended_walked = rw agree_extended_entries s.extended_walked;
      }

  rest : refusal (drop 9 (table_rules u)) ≡ refusal (drop 9 (table_rules t))
  unfolding table_rules wrong_processors
  rest = rw (agree_entries, agree_extended_entries, agree_le 4 36 (omega arith))

  pub agree_refusal : table_refusal u ≡ table_refusal t
  agree_refusal = sound_rest u agree_sound ∙ rest ∙ sym (sound_rest t s)

  agree_fields : fields_of u ≡ fields_of t
  agree_fields = fields_by t u (agree_part 8 header_size header_inside)

  pub agree_parts : parts_of u ≡ parts_of t
  unfolding parts_of
  agree_parts = rw (agree_fields, agree_base_part, agree_extended_part)
