-- A sample finds what it asks for in the tests that were passed. Assumes nothing.
use Rattle.std.specs.Prelude.{length}
use Rattle.line.proofs.Accepted.{sample_given}
use Rattle.line.proofs.line.Line.advance.Goals as goal

pub take-requires : goal.take-requires
take-requires c = let a = c.args in sample_given a.self.now (length a.records.now) c.read-active.result a.tallies.now a.e c.in-Sample.s (rw (← c.refusal.ensures) c.in_default.is) c.in-Sample.is
