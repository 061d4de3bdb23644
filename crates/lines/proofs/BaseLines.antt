-- The lines of base entries, from their words. Assumes nothing.
use Prim.Native.Nat.{ℕ, ◌+◌, ◌/◌, ◌%◌, ◌<◌}
use mathlib.Core.Path.{◌≡◌, refl}
use mathlib.Core.Bool.{false}
use mathlib.Core.List.{List, [], ◌∷◌}
use native.Mathlib.Nat.{div-one}
use native.Mathlib.Omega.{arith}
use borrow.Author.Tests.{ne_eqb}
use lib.Dec.{eqb}
use lib.ListN.{set}
use Rattle.mps.specs.Words.{text, bit, byte, keep}
use Rattle.mps.specs.Numbers.{le, bytes}
use Rattle.mps.specs.Layout.{Entry, name_of, polarity, trigger, destination, input}
use Rattle.mps.specs.Listing.{decimal, hex, not_space, unpadded, on_off, boot_ap, interrupt_name, line}
use Rattle.mps.specs.Listing.{cpu_line, bus_line, io_apic_line, interrupt_line, base_line}
use Rattle.laws.proofs.Lists.{keep_in, keep_append}
use Rattle.text.specs.Text.{ended}
use Rattle.lines.specs.Wrote.{Wrote}
use Rattle.lines.proofs.Laws.{Line, then, last, next}

-- ---- Words of a choice

gt_eqb : (a b : ℕ) → b < a → eqb a b ≡ false
gt_eqb a b h = ne_eqb a b (λ e. omega (arith, e))

module _ {t u : List ℕ} {at r : ℕ} (n : ℕ) where
  pub on_is : n % 2 ≡ 1 → Wrote t at (text "on ") u r → Wrote t at (ended (on_off (bit 0 n)) 32) u r
  unfolding text ended on_off bit
  on_is h a = rw (div-one, h) a

  pub off_is : n % 2 ≡ 0 → Wrote t at (text "off ") u r → Wrote t at (ended (on_off (bit 0 n)) 32) u r
  unfolding text ended on_off bit
  off_is h a = rw (div-one, h) a

  pub boot_is : n / 2 % 2 ≡ 1 → Wrote t at (text "boot\n") u r → Wrote t at (ended (boot_ap (bit 1 n)) 10) u r
  unfolding text ended boot_ap bit
  boot_is h a = rw h a

  pub ap_is : n / 2 % 2 ≡ 0 → Wrote t at (text "ap\n") u r → Wrote t at (ended (boot_ap (bit 1 n)) 10) u r
  unfolding text ended boot_ap bit
  ap_is h a = rw h a

  pub int_is : n ≡ 0 → Wrote t at (text " INT ") u r → Wrote t at (32 ∷ ended (interrupt_name n) 32) u r
  unfolding text ended interrupt_name
  int_is h a = rw h a

  pub nmi_is : n ≡ 1 → Wrote t at (text " NMI ") u r → Wrote t at (32 ∷ ended (interrupt_name n) 32) u r
  unfolding text ended interrupt_name
  nmi_is h a = rw h a

  pub smi_is : n ≡ 2 → Wrote t at (text " SMI ") u r → Wrote t at (32 ∷ ended (interrupt_name n) 32) u r
  unfolding text ended interrupt_name
  smi_is h a = rw h a

  pub extint_is : 2 < n → Wrote t at (text " EXTINT ") u r → Wrote t at (32 ∷ ended (interrupt_name n) 32) u r
  unfolding text ended interrupt_name
  extint_is h a = rw (gt_eqb n 0 (omega arith), gt_eqb n 1 (omega arith), gt_eqb n 2 h) a

-- ---- Lines

-- The last words of an interrupt, behind its polarity.
abbrev signalled : Entry → List (List ℕ)
signalled e = decimal (trigger e) ∷ decimal (destination e) ∷ decimal (input e) ∷ []

-- A byte of a name, or padding.
no_padding : (b : ℕ) → (b ≡ 32 → ⊥) → keep not_space (b ∷ []) ≡ b ∷ []
unfolding keep
no_padding b h = keep_in not_space b [] (rw (ne_eqb b 32 h))

module _ {t : List ℕ} {at b n : ℕ} (e : b ≡ n) where
  pub letter_space : b ≡ 32 → Wrote t at (unpadded (n ∷ [])) t at
  unfolding unpadded keep
  letter_space h = rw (← e, h) (record { place = omega arith; text = refl })

  pub letter_byte : (b ≡ 32 → ⊥) → Wrote t at (unpadded (n ∷ [])) (set t at b) (at + 1)
  unfolding unpadded
  letter_byte h = rw (← e, no_padding b h) (record { place = refl; text = refl })

-- One byte before others.
before :
    {t u v : List ℕ} {at p q : ℕ} (b : ℕ) (s : List ℕ)
    → Wrote t at (unpadded (b ∷ [])) u p → Wrote u p (unpadded s) v q → Wrote t at (unpadded (b ∷ s)) v q
unfolding unpadded
before b s x y = rw (keep_append not_space (b ∷ []) s) (then x y)

-- The six bytes of a bus's name.
pub name_is :
    {t u v w x y z : List ℕ} {at f g h i j k : ℕ} (e : ℕ)
    → Wrote t at (unpadded (byte (bytes 8 e) 2 ∷ [])) u f → Wrote u f (unpadded (byte (bytes 8 e) 3 ∷ [])) v g
    → Wrote v g (unpadded (byte (bytes 8 e) 4 ∷ [])) w h → Wrote w h (unpadded (byte (bytes 8 e) 5 ∷ [])) x i
    → Wrote x i (unpadded (byte (bytes 8 e) 6 ∷ [])) y j → Wrote y j (unpadded (byte (bytes 8 e) 7 ∷ [])) z k
    → Wrote t at (unpadded (name_of (bytes 8 e))) z k
unfolding bytes
name_is e a b c d f g = before _ _ a (before _ _ b (before _ _ c (before _ _ d (before _ _ f g))))

module _ (e : Entry) {t u v w : List ℕ} {at p q r : ℕ} where
  pub bus_is :
      Wrote t at (ended (text "bus") 32) u p → Wrote u p (ended (decimal (byte e 1)) 32) v q
      → Wrote v q (unpadded (name_of e)) w r → Wrote t at (bus_line e) (set w r 10) (r + 1)
  unfolding bus_line ended
  bus_is a b c =
      let end : Wrote w r (10 ∷ []) (set w r 10) (r + 1) = record { place = refl; text = refl } in
      (next (text "bus") a (next (decimal (byte e 1)) b (last (unpadded (name_of e)) (then c end)))).wrote

  module _ {x y : List ℕ} {s end flags : ℕ} (f : flags ≡ byte e 3) where
    -- What a processor and an I/O APIC have in common.
    apic_is :
        (word rest : List ℕ) → Wrote t at (ended word 32) u p → Wrote u p (ended (decimal (byte e 1)) 32) v q
        → Wrote v q (ended (decimal (byte e 2)) 32) w r → Wrote w r (ended (on_off (bit 0 flags)) 32) x s
        → Wrote x s (ended rest 10) y end
        → Wrote t at (line word (decimal (byte e 1) ∷ decimal (byte e 2) ∷ on_off (bit 0 (byte e 3)) ∷ rest ∷ [])) y end
    apic_is word rest a b c d g =
        (next word a (next (decimal (byte e 1)) b (next (decimal (byte e 2)) c
        (next (on_off (bit 0 (byte e 3))) (rw (← f) d) (last rest g))))).wrote

    pub cpu_is :
        Wrote t at (ended (text "cpu") 32) u p → Wrote u p (ended (decimal (byte e 1)) 32) v q
        → Wrote v q (ended (decimal (byte e 2)) 32) w r → Wrote w r (ended (on_off (bit 0 flags)) 32) x s
        → Wrote x s (ended (boot_ap (bit 1 flags)) 10) y end → Wrote t at (cpu_line e) y end
    unfolding cpu_line
    cpu_is a b c d g = apic_is (text "cpu") (boot_ap (bit 1 (byte e 3))) a b c d (rw (← f) g)

    pub io_apic_is :
        {address : ℕ} → address ≡ le 4 e 4 → Wrote t at (ended (text "ioapic") 32) u p
        → Wrote u p (ended (decimal (byte e 1)) 32) v q → Wrote v q (ended (decimal (byte e 2)) 32) w r
        → Wrote w r (ended (on_off (bit 0 flags)) 32) x s → Wrote x s (ended (hex 8 address) 10) y end
        → Wrote t at (io_apic_line e) y end
    unfolding io_apic_line
    io_apic_is h a b c d g = apic_is (text "ioapic") (hex 8 (le 4 e 4)) a b c d (rw (← h) g)

  pub signal_is :
      {x : List ℕ} {s flags : ℕ} → flags ≡ byte e 2 → Wrote t at (ended (decimal (flags % 4)) 32) u p
      → Wrote u p (ended (decimal (flags / 4 % 4)) 32) v q → Wrote v q (ended (decimal (byte e 6)) 32) w r
      → Wrote w r (ended (decimal (byte e 7)) 10) x s → Wrote t at (line (decimal (polarity e)) (signalled e)) x s
  signal_is f a b c d =
      (next (decimal (polarity e)) (rw f at a) (next (decimal (trigger e)) (rw f at b)
      (next (decimal (destination e)) c (last (decimal (input e)) d)))).wrote

  pub interrupt_is :
      {x : List ℕ} {s kind : ℕ} → kind ≡ byte e 1 → Wrote t at (32 ∷ ended (interrupt_name kind) 32) u p
      → Wrote u p (ended (decimal (byte e 4)) 32) v q → Wrote v q (ended (decimal (byte e 5)) 32) w r
      → Wrote w r (line (decimal (polarity e)) (signalled e)) x s
      → Wrote t at (32 ∷ line (interrupt_name (byte e 1)) (decimal (byte e 4) ∷ decimal (byte e 5) ∷ decimal (polarity e) ∷ signalled e)) x s
  unfolding line ended
  interrupt_is {x} {s} k a b c d =
      let rest : Line w r (decimal (polarity e)) (signalled e) x s = record { wrote = d } in
      (next (32 ∷ interrupt_name (byte e 1)) (rw k at a) (next (decimal (byte e 4)) b (next (decimal (byte e 5)) c rest))).wrote

pub interrupt_line_lem :
    {t u v : List ℕ} {at p q : ℕ} (e : Entry) (word : List ℕ) → Wrote t at word u p
    → Wrote u p (32 ∷ line (interrupt_name (byte e 1)) (decimal (byte e 4) ∷ decimal (byte e 5) ∷ decimal (polarity e) ∷ signalled e)) v q
    → Wrote t at (interrupt_line word e) v q
unfolding interrupt_line line
interrupt_line_lem e word a b = then a b

-- ---- The line of an entry, by its type

module _ {t u : List ℕ} {at r : ℕ} (e : Entry) (kind : ℕ) (is : kind ≡ byte e 0) where
  pub cpu_first : kind ≡ 0 → Wrote t at (cpu_line e) u r → Wrote t at (base_line e) u r
  unfolding base_line
  cpu_first h a = rw (← is, h) a

  pub bus_first : kind ≡ 1 → Wrote t at (bus_line e) u r → Wrote t at (base_line e) u r
  unfolding base_line
  bus_first h a = rw (← is, h) a

  pub io_apic_first : kind ≡ 2 → Wrote t at (io_apic_line e) u r → Wrote t at (base_line e) u r
  unfolding base_line
  io_apic_first h a = rw (← is, h) a

  pub int_first : kind ≡ 3 → Wrote t at (interrupt_line (text "int") e) u r → Wrote t at (base_line e) u r
  unfolding base_line
  int_first h a = rw (← is, h) a

  pub lint_first : 3 < kind → Wrote t at (interrupt_line (text "lint") e) u r → Wrote t at (base_line e) u r
  unfolding base_line
  lint_first h a =
      rw (← is, gt_eqb kind 0 (omega arith), gt_eqb kind 1 (omega arith), gt_eqb kind 2 (omega arith), gt_eqb kind 3 h) a
