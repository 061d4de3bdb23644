-- The two ways of the definition's choice.
use Rattle.mps.specs.Numbers.{bytes}
use Rattle.lines.proofs.EntryLines.{base_line_lem, extended_line_lem}
use Rattle.lines.proofs.entry.ShortLinePut.put.Goals as goal

pub returns-then-byte-lt-MAPPING_TYPE-clause-wrote : goal.returns-then-byte-lt-MAPPING_TYPE-clause-wrote
returns-then-byte-lt-MAPPING_TYPE-clause-wrote c =
    rw (base_line_lem (bytes 8 c.args.self.now.e) c.byte.ensures c.if-byte-lt-MAPPING_TYPE.true) c.entry.ensures.wrote

pub returns-else-byte-lt-MAPPING_TYPE-clause-wrote : goal.returns-else-byte-lt-MAPPING_TYPE-clause-wrote
returns-else-byte-lt-MAPPING_TYPE-clause-wrote c =
    rw (extended_line_lem (bytes 8 c.args.self.now.e) c.byte.ensures c.if-byte-lt-MAPPING_TYPE.false) c.entry-else-byte-lt-MAPPING_TYPE.ensures.wrote
