-- Lines of offers, one after another.
use Rattle.std.proofs.Common.{◌≡◌, ◌≤◌, ◌+◌, ℕ, List, ◌++◌, length, drop, Some, None, sym, subst, ap, ◌∙◌, append_assoc}
use Rattle.std.specs.Prelude.{slice_get}
use Rattle.std.proofs.lemmas.List.{drop_more, at_drop_all, append-nil}
use Rattle.std.proofs.lemmas.Option.{get_or_from_slice_get, slice_get_within}
use Rattle.pz_io.specs.Outside.{SinkState}
use Rattle.pz_io.specs.declared.writing.Halt.{Halt}
use Rattle.pz_io.specs.Writing.{Wrote}
use Rattle.pz_classes_code.specs.pz_syntax.Classes.{ModelTree}
use Rattle.pz_rules.specs.declared.action.Action.{Action}
use Rattle.pz_debug_replies.specs.Lines.{offer_line, offers_text}
use Rattle.pz_debug_replies.specs.devices.Known.{Known}

-- behind the last there is nothing
pub all_told : (m : ModelTree) (n : ℕ) (offers : List Action) (before now : SinkState) (written : List ℕ) → length offers ≤ n → Wrote before now written None
    → written ++ offers_text m n (drop n offers) ≡ offers_text m 0 offers → Wrote before now (offers_text m 0 offers) None
all_told m n offers before now written all wrote text =
    let none = at_drop_all (offers_text m n) offers n all in
    subst (λ (l : List ℕ). Wrote before now l None) (sym (append-nil written) ∙ ap (λ (l : List ℕ). written ++ l) (sym none) ∙ text) wrote

module _ (m : ModelTree) (k : ℕ) (a : Action) (offers : List Action) (chosen : slice_get offers k ≡ Some a) where
  offers_step : offers_text m k (drop k offers) ≡ offer_line m k a ++ offers_text m (k + 1) (drop (k + 1) offers)
  offers_step =
      ap (offers_text m k) (drop_more offers k a (slice_get_within offers k a chosen))
      ∙ ap (λ (x : Action). offer_line m k x ++ offers_text m (k + 1) (drop (k + 1) offers)) (get_or_from_slice_get offers k a a chosen)

  module _ (known : Known) (before mid now : SinkState) (written : List ℕ) (wrote : Wrote before mid written None) (text : written ++ offers_text m k (drop k offers) ≡ offers_text m 0 offers) where
    -- one more
    pub offer_told : Wrote mid now (offer_line m k a) None → (more : List ℕ) × Wrote before now more None × (more ++ offers_text m (k + 1) (drop (k + 1) offers) ≡ offers_text m 0 offers)
    offer_told line = (
      written ++ offer_line m k a,
      known.joins before mid now written (offer_line m k a) None wrote line,
      append_assoc written (offer_line m k a) (offers_text m (k + 1) (drop (k + 1) offers)) ∙ ap (λ (l : List ℕ). written ++ l) (sym offers_step) ∙ text,
    )

    -- or the last
    pub offer_cut : (halt : Halt) → Wrote mid now (offer_line m k a) (Some halt) → Wrote before now (offers_text m 0 offers) (Some halt)
    offer_cut halt line =
        let rest : Wrote mid now (offers_text m k (drop k offers)) (Some halt) = subst (λ (l : List ℕ). Wrote mid now l (Some halt)) (sym offers_step) (known.halts mid now (offer_line m k a) (offers_text m (k + 1) (drop (k + 1) offers)) halt line) in
        subst (λ (l : List ℕ). Wrote before now l (Some halt)) text (known.joins before mid now written (offers_text m k (drop k offers)) (Some halt) wrote rest)
