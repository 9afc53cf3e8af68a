use Rattle.world_view.proofs.opening.Separate.{separated}
use Rattle.world_view.proofs.opening.OpeningFacts.{kernel_of, parties_of}
use Rattle.world_view.proofs.runs.PartyLaws.{parties_swap, party_frames}
use Rattle.world_view.proofs.laws.parties.Goals as goal

pub returns : goal.returns
returns c = record {
  each = λ i d r is. kernel_of i (separated i r) d is;
  two = λ i d e r is ie other. parties_of i (separated i r) d e is ie other;
  swap = parties_swap;
  frames = party_frames;
}
