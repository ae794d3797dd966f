use Rattle.std.proofs.Common.{refl}
use Rattle.pz_format.specs.Layout.{layout}
use Rattle.pz_format.proofs.ReadBack.{reads_back, read_again}
use Rattle.pz_format.proofs.laws.layouts_read_back.Goals as goal

pub returns : goal.returns
returns c = record {
  back = reads_back;
  again = λ model pieces kept bytes apart read is. read_again model pieces (layout pieces) refl kept bytes apart read is;
}
