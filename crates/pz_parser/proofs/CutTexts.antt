-- What may stand of a model is what begins the text of a whole one, but for the name of a call.
use Rattle.std.proofs.Common.{◌≡◌, ℕ, ◌≤◌, inl, inr, List, [], ◌∷◌, ◌++◌, sym, ◌∙◌, subst, append_assoc}
use Rattle.pz_syntax.specs.declared.tokens.Keyword.TheVariants as k
use Rattle.pz_syntax.specs.declared.tokens.Mark.{Mark}
use Rattle.pz_syntax.specs.Marks.{keyword, head}
use Rattle.pz_parser.specs.Cuts.{IsCut}
use Rattle.pz_parser.specs.devices.Beginnings.{Begins, IsBegun}
use Rattle.pz_parser.proofs.Cutting.{Begun, Completes}
use Rattle.pz_parser.proofs.CuttingModels.{model, model_cutting}

pub cut_from : (limit : ℕ) (p : List Mark) → IsBegun limit p → IsCut limit p
cut_from limit p (inl b) = (b.0, b.2, (model_cutting b.0 b.2).fronts limit p b.1 b.4 b.3)
cut_from limit p (inr c) =
    let b = c.4 in
    let s = (model_cutting b.0 b.2).swaps limit c.1 c.0 b.1 (b.4 ∙ append_assoc c.0 (keyword k.Skip ∷ []) b.1) b.3 in
    subst (IsCut limit) (sym c.2) (s.0, s.1, s.2)

begins_by : (limit : ℕ) (p : List Mark) → Begun model limit p → Begins limit p
begins_by limit p b = (b.whole, b.rest, b.is, b.low, b.parts)

pub begun_from : (limit : ℕ) (p : List Mark) → IsCut limit p → IsBegun limit p
begun_from limit p c = by ((model_cutting c.0 c.1).completes limit p c.2)
  where
    by : Completes model limit p → IsBegun limit p
    by (inl b) = inl (begins_by limit p b)
    by (inr n) = inr (n.front, n.name, n.parts, (n.depth, begins_by n.depth p n.begins), begins_by limit (n.front ++ keyword k.Skip ∷ []) n.skipped)
