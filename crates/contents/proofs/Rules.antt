-- `sound_dump` taken apart into its rules, and put together from them. Assumes nothing.
use Prim.Native.Nat.{ℕ, ◌≤◌}
use mathlib.Core.Path.{◌≡◌}
use mathlib.Core.Bool.{true, false, not, ◌&&◌}
use mathlib.Core.List.{List}
use lib.ListN.{length}
use lib.Dec.{leb}
use borrow.Author.Tests.{leb-true, eqb-true, not-true, le-leb, eq-eqb}
use Rattle.mps.specs.Words.{every}
use Rattle.mps.specs.Layout.{dump_most, regions_most, region_count}
use Rattle.mps.specs.Dump.{regions, sound_region, kind_twice, overlap, ends_with_last, sound_dump}
use Rattle.laws.proofs.Tests.{and_parts}
use Rattle.contents.specs.Steps.{last_end}

pub record Sound (d : List ℕ) : Type 0 where
  pub some : 1 ≤ length d
  pub most : length d ≤ dump_most
  pub count : region_count d ≤ regions_most
  pub ends : last_end d ≡ length d
  pub each_sound : every sound_region (regions d) ≡ true
  pub once : kind_twice (regions d) ≡ false
  pub apart : overlap (regions d) ≡ false

module _ (d : List ℕ) where
  pub sound_parts : sound_dump d ≡ true → Sound d
  unfolding sound_dump ends_with_last
  sound_parts e =
      let w = leb 1 (length d) in
      let m = leb (length d) dump_most in
      let c = leb (region_count d) regions_most in
      let n = ends_with_last d in
      let s = every sound_region (regions d) in
      let k = not (kind_twice (regions d)) in
      let o = not (overlap (regions d)) in
      let h1 = and_parts (w && m && c && n && s && k) o e in
      let h2 = and_parts (w && m && c && n && s) k h1.0 in
      let h3 = and_parts (w && m && c && n) s h2.0 in
      let h4 = and_parts (w && m && c) n h3.0 in
      let h5 = and_parts (w && m) c h4.0 in
      let h6 = and_parts w m h5.0 in
      record {
        some = leb-true 1 (length d) h6.0;
        most = leb-true (length d) dump_most h6.1;
        count = leb-true (region_count d) regions_most h5.1;
        ends = eqb-true (last_end d) (length d) h4.1;
        each_sound = h3.1;
        once = not-true (kind_twice (regions d)) h2.1;
        apart = not-true (overlap (regions d)) h1.1;
      }

  pub sound_whole : Sound d → sound_dump d ≡ true
  unfolding sound_dump ends_with_last
  sound_whole r =
      rw (
        le-leb 1 (length d) r.some,
        le-leb (length d) dump_most r.most,
        le-leb (region_count d) regions_most r.count,
        eq-eqb (last_end d) (length d) r.ends,
        r.each_sound,
        r.once,
        r.apart,
      )
