-- Lines of offers, one after another.
use Rattle.std.proofs.Common.{◌≡◌, ◌≤◌, ◌<◌, ◌+◌, ℕ, zero, suc, List, [], ◌∷◌, ◌++◌, length, drop, Some, None, refl, sym, subst, ap, ◌∙◌, append_assoc, arith}
use Rattle.std.specs.Prelude.{slice_get}
use Rattle.std.proofs.lemmas.List.{drop_more, at_drop_all, append-nil}
use Rattle.std.proofs.lemmas.Option.{get_or_from_slice_get, slice_get_within}
use Rattle.pz_io.specs.Outside.{SinkState}
use Rattle.pz_io.specs.declared.writing.Halt.{Halt}
use Rattle.pz_io.specs.Writing.{Wrote}
use Rattle.pz_rules.specs.pz_syntax.Classes.{ModelTree}
use Rattle.pz_rules.specs.declared.action.Action.{Action}
use Rattle.pz_rules.specs.declared.moment.Moment.TheVariants.{Actions}
use Rattle.pz_watch_points.specs.pz_trace.Lines.{action_line}
use Rattle.pz_term_simulator.specs.Simulations as simulations
use Rattle.pz_term_simulator.specs.Simulations.{Simulation, IsMomentOf, AreOffersOf, IsOffer}
use Rattle.pz_run_playing.specs.Menus.{offer_line, offers_text}
use Rattle.pz_run_playing.specs.devices.Known.{Known}

-- what is put into an empty text is all of it
pub put_alone : (before text now : List ℕ) → before ≡ [] → now ≡ before ++ text → now ≡ text
put_alone before text now none is = is ∙ ap (λ (l : List ℕ). l ++ text) none

-- the line of an action, where all of it is known
pub same_line : (m l : ModelTree) (t u n k : ℕ) (a b : Action) → m ≡ l → t ≡ u → a ≡ b → action_line m t n k a ≡ action_line l u n k b
same_line m l t u n k a b model clock action =
    ap (λ (x : ModelTree). action_line x t n k a) model ∙ ap (λ (x : ℕ). action_line l x n k a) clock ∙ ap (λ (x : Action). action_line l u n k x) action

-- and of an offer in a menu
pub same_offer : (m l : ModelTree) (k : ℕ) (a b : Action) → m ≡ l → a ≡ b → offer_line m k a ≡ offer_line l k b
same_offer m l k a b model action = ap (λ (x : ModelTree). offer_line x k a) model ∙ ap (λ (x : Action). offer_line l k x) action

-- behind the last there is nothing
pub all_told : (m : ModelTree) (n : ℕ) (offers : List Action) (before now : SinkState) (written : List ℕ) → length offers ≤ n → Wrote before now written None
    → written ++ offers_text m n (drop n offers) ≡ offers_text m 0 offers → Wrote before now (offers_text m 0 offers) None
all_told m n offers before now written all wrote text =
    let none = at_drop_all (offers_text m n) offers n all in
    subst (λ (l : List ℕ). Wrote before now l None) (sym (append-nil written) ∙ ap (λ (l : List ℕ). written ++ l) (sym none) ∙ text) wrote

nth_there : (offers : List Action) (k : ℕ) → k < length offers → (a : Action) × (slice_get offers k ≡ Some a)
nth_there [] k within = absurd (omega (arith, within))
nth_there (a ∷ offers) zero within = (a, refl)
nth_there (a ∷ offers) (suc k) within = nth_there offers k (omega (arith, within))

offer_in_list : (s : Simulation) (offers : List Action) (n k : ℕ) (a : Action) → AreOffersOf s offers → IsMomentOf s (Actions n) → slice_get offers k ≡ Some a → IsOffer s k a
offer_in_list _ offers n k a (simulations.some setting c m _ is are) now chosen = record { offers = offers; all = are; chosen = chosen }
offer_in_list _ _ n k a (simulations.none s never) now chosen = absurd (never n now)

-- the offer of each number that the moment counts
pub nth_offer : Known → (s : Simulation) (n k : ℕ) (offers : List Action) → IsMomentOf s (Actions n) → AreOffersOf s offers → k < n → (a : Action) × (slice_get offers k ≡ Some a) × IsOffer s k a
nth_offer known s n k offers now are within =
    let x = nth_there offers k (omega (arith, within, known.offers_counted s n offers now are)) in
    (x.0, x.1, offer_in_list s offers n k x.0 are now x.1)

module _ (m : ModelTree) (k : ℕ) (a : Action) (offers : List Action) (chosen : slice_get offers k ≡ Some a) where
  offers_step : offers_text m k (drop k offers) ≡ offer_line m k a ++ offers_text m (k + 1) (drop (k + 1) offers)
  offers_step =
      ap (offers_text m k) (drop_more offers k a (slice_get_within offers k a chosen))
      ∙ ap (λ (x : Action). offer_line m k x ++ offers_text m (k + 1) (drop (k + 1) offers)) (get_or_from_slice_get offers k a a chosen)

  module _ (known : Known) (before mid now : SinkState) (written : List ℕ) (wrote : Wrote before mid written None) (text : written ++ offers_text m k (drop k offers) ≡ offers_text m 0 offers) where
    -- one more
    pub offer_told : Wrote mid now (offer_line m k a) None → (more : List ℕ) × Wrote before now more None × (more ++ offers_text m (k + 1) (drop (k + 1) offers) ≡ offers_text m 0 offers)
    offer_told line = (
      written ++ offer_line m k a,
      known.joins before mid now written (offer_line m k a) None wrote line,
      append_assoc written (offer_line m k a) (offers_text m (k + 1) (drop (k + 1) offers)) ∙ ap (λ (l : List ℕ). written ++ l) (sym offers_step) ∙ text,
    )

    -- or the last
    pub offer_cut : (halt : Halt) → Wrote mid now (offer_line m k a) (Some halt) → Wrote before now (offers_text m 0 offers) (Some halt)
    offer_cut halt line =
        let rest : Wrote mid now (offers_text m k (drop k offers)) (Some halt) = subst (λ (l : List ℕ). Wrote mid now l (Some halt)) (sym offers_step) (known.halts mid now (offer_line m k a) (offers_text m (k + 1) (drop (k + 1) offers)) halt line) in
        subst (λ (l : List ℕ). Wrote before now l (Some halt)) text (known.joins before mid now written (offers_text m k (drop k offers)) (Some halt) wrote rest)
