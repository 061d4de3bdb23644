-- The two ways of the definition's choice.
use Rattle.lines.proofs.EntryLines.{base_line_lem, extended_line_lem}
use Rattle.listing.proofs.line_width.Goals as goal

pub returns-then-byte-lt-MAPPING_TYPE : goal.returns-then-byte-lt-MAPPING_TYPE
returns-then-byte-lt-MAPPING_TYPE c =
    rw (base_line_lem c.args.e.now c.byte.ensures c.if-byte-lt-MAPPING_TYPE.true) c.base.ensures

pub returns : goal.returns
returns c =
    rw (extended_line_lem c.args.e.now c.byte.ensures c.if-byte-lt-MAPPING_TYPE.false) c.extended.ensures
