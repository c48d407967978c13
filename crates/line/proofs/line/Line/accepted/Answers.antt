-- A sample's method finds what it asks for in the tests that were passed. Assumes nothing.
use Rattle.line.proofs.Accepted.{sample_given}
use Rattle.line.proofs.line.Line.accepted.Goals as goal

pub sample-requires : goal.sample-requires
sample-requires c = let a = c.args in sample_given a.self a.count a.active a.tallies.now a.e c.in-Sample.s c.requires c.in-Sample.is
