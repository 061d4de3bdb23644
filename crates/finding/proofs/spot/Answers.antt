-- Where the first region has no good candidate, those of the ROM are all.
use mathlib.Core.Path.{◌∙◌, ap}
use Rattle.finding.specs.Spotted.{or_blank}
use Rattle.finding.proofs.Spots.{find_kind, first_region_fits, spots_first, rom_region_fits, spots_rom}
use Rattle.finding.proofs.spot.Goals as goal

pub spot_in-requires : goal.spot_in-requires
spot_in-requires c = first_region_fits _ c.requires c.searched_first.ensures

pub spot_in-requires-in-None : goal.spot_in-requires-in-None
spot_in-requires-in-None c =
    rom_region_fits _ c.requires c.searched_first.ensures c.spot_in.ensures c.in-None.is (ap or_blank c.of_kind.ensures ∙ find_kind 3 _)

pub returns-in-Some : goal.returns-in-Some
returns-in-Some c = spots_first _ c.requires c.searched_first.ensures c.spot_in.ensures c.in-Some.is

pub returns-in-None : goal.returns-in-None
returns-in-None c =
    spots_rom _ c.requires c.searched_first.ensures c.spot_in.ensures c.in-None.is (ap or_blank c.of_kind.ensures ∙ find_kind 3 _) _ c.spot_in-in-None.ensures
