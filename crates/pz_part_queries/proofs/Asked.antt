-- What a part is asked, from what an evaluation would find.
use Rattle.std.proofs.Common.{◌≡◌, ℕ, Bool, List, [], Option, Some, None, Result, Ok, refl, sym, subst}
use Rattle.pz_classes_code.specs.pz_syntax.declared.tokens.Pos.{Pos}
use Rattle.pz_classes_code.specs.pz_syntax.Expressions.{left_out, written}
use Rattle.pz_classes_code.specs.declared.code.Code as code
use Rattle.pz_classes_code.specs.CodeView.{list_view, part_view}
use Rattle.pz_rules.specs.pz_copy.Parcels.{ParcelView}
use Rattle.pz_rules.specs.pz_copy.Packing.{IsParcelOf}
use Rattle.pz_rules.specs.pz_offer.declared.trouble.Trouble.{Trouble}
use Rattle.pz_rules.specs.pz_eval_rules.declared.allowance.Allowance.{Allowance}
use Rattle.pz_rules.specs.pz_eval_rules.declared.outcome.Outcome.{Outcome}
use Rattle.pz_eval.specs.declared.parcels.Parceled.{Parceled}
use Rattle.pz_eval.specs.Tentative.{WouldFind}
use Rattle.pz_eval.specs.Parcels as eval
use Rattle.pz_eval.specs.Parcels.{FindsParcel}
use Rattle.pz_rules.specs.Terms.{Code, Codes}
use Rattle.pz_rules.specs.Settings.{Context}
use Rattle.pz_rules.specs.Meanings.{and_then, truth, duration}
use Rattle.pz_rules.specs.Evaluations.{allowance, value_or_trouble, Tests, Lasts}
use Rattle.pz_part_queries.specs.Parcels as asking
use Rattle.pz_part_queries.specs.Parcels.{Packs}
use Rattle.pz_part_queries.specs.devices.Outcomes.{parcel_or_trouble}

module _ (a : Context) (f : ℕ) (at : Pos) (allowed : Allowance) (is_allowed : allowed ≡ allowance a.setting.limits) where
  abbrev Would : Code → Outcome → Allowance → Type 0
  Would e o limit = WouldFind a.setting.model a.clock f a.state e limit o

  pub test_asked : (e : Code) (o : Outcome) (r : Result Bool Trouble) → WouldFind a.setting.model a.clock f a.state e allowed o → r ≡ and_then (value_or_trouble a.process at o) (truth a.process at) → Tests a f at e r
  test_asked e o r would is =
      let w : Would e o (allowance a.setting.limits) = subst (λ (limit : Allowance). Would e o limit) is_allowed would in
      record { found = value_or_trouble a.process at o; left = w.left; gives = record { outcome = o; finds = w.finds; means = refl }; means = is }

  pub time_asked : (e : Code) (o : Outcome) (r : Result ℕ Trouble) → WouldFind a.setting.model a.clock f a.state e allowed o → r ≡ and_then (value_or_trouble a.process at o) (duration a.process at) → Lasts a f at e r
  time_asked e o r would is =
      let w : Would e o (allowance a.setting.limits) = subst (λ (limit : Allowance). Would e o limit) is_allowed would in
      record { found = value_or_trouble a.process at o; left = w.left; gives = record { outcome = o; finds = w.finds; means = refl }; means = is }

  packed : (es : Codes) (p : Parceled) → FindsParcel a.setting.model a.clock f a.state es (allowance a.setting.limits) p → Packs a f at (written es) (parcel_or_trouble a.process at p)
  packed es _ (eval.a_parcel {values} {left} {parcel} finds parcels) = asking.packs values left parcel (record { outcome = _; finds = finds; means = refl }) parcels
  packed es _ (eval.no_values {left} finds) = asking.fails _ left (record { outcome = _; finds = finds; means = refl })
  packed es _ (eval.too_much {left} finds) = asking.fails _ left (record { outcome = _; finds = finds; means = refl })

  pub parcel_asked : (es : Codes) (p : Parceled) (r : Result ParcelView Trouble) → FindsParcel a.setting.model a.clock f a.state es allowed p → r ≡ parcel_or_trouble a.process at p → Packs a f at (written es) r
  parcel_asked es p r finds is =
      subst (λ (x : Result ParcelView Trouble). Packs a f at (written es) x) (sym is) (packed es p (subst (λ (limit : Allowance). FindsParcel a.setting.model a.clock f a.state es limit p) is_allowed finds))

-- what is not written has no values
pub nothing_asked : (a : Context) (f : ℕ) (at : Pos) (parcel : ParcelView) → IsParcelOf a.state [] parcel → Packs a f at left_out (Ok parcel)
nothing_asked a f at parcel packed = asking.packs [] a.state parcel (refl, refl) packed

-- in the code's words: nothing is written, or a list

pub not_written : (a : Context) (f : ℕ) (at : Pos) (args : Option (List code.Code)) (parcel : ParcelView) → args ≡ None → IsParcelOf a.state [] parcel → Packs a f at (part_view args) (Ok parcel)
not_written a f at args parcel none packed =
    subst (λ (es : Option (List code.Code)). Packs a f at (part_view es) (Ok parcel)) (sym none) (nothing_asked a f at parcel packed)

pub list_written : (a : Context) (f : ℕ) (at : Pos) (args : Option (List code.Code)) (codes slice : List code.Code) (r : Result ParcelView Trouble) → args ≡ Some codes → slice ≡ codes
    → Packs a f at (written (list_view slice)) r → Packs a f at (part_view args) r
list_written a f at args codes slice r some same is =
    subst (λ (es : Option (List code.Code)). Packs a f at (part_view es) r) (sym some) (subst (λ (es : List code.Code). Packs a f at (written (list_view es)) r) same is)
