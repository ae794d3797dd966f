use Rattle.std.proofs.Common.{◌∙◌, ap, Option, ℕ}
use Rattle.std.specs.Prelude.{nat_eq, unwrap_or, position}
use Rattle.pz_copy.proofs.Renaming.{place_or_length}
use Rattle.pz_copy.proofs.packing.place_of.Goals as goal

pub returns : goal.returns
returns c =
    c.unwrap_or.ensures
    ∙ ap (λ (o : Option ℕ). unwrap_or o c.len.result) c.get_index_of.ensures.index
    ∙ ap (λ (n : ℕ). unwrap_or (position (nat_eq c.args.r) c.args.listed.now.keys) n) c.len.ensures.len
    ∙ place_or_length c.args.listed.now.keys c.args.r
