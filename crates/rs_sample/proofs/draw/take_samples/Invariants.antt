use Rattle.std.proofs.Common.{ℕ, ◌≤◌, sum, take}
use Rattle.rs_sample.specs.Samples.{AreSamples, most_sampled}
use Rattle.rs_sample.proofs.DrawFacts.{DrawnSome}
use Rattle.rs_sample.proofs.draw.take_samples.Given as goal

-- the first tables have their samples
abbrev pub invariant-loop-size : goal.invariant-loop-size
invariant-loop-size l = record {
  are : AreSamples (most_sampled l.entries) (take l.size-index l.sizes) l.samples.items;
  drawn : (count : ℕ) → sum l.sizes ≤ count → DrawnSome l.entries l.sizes l.size-index l.samples.items l.fn.words l.words count;
}
