-- What is inside of each form of a term.
use Rattle.std.proofs.Common.{◌≡◌, ◌<◌, ℕ, zero, suc, List, [], ◌∷◌, length, Some, slice_get, slice_set, refl, sym, subst, ap, ◌∙◌, arith, rules}
use Rattle.std.proofs.lemmas.List.{length-set}
use Rattle.std.proofs.lemmas.Option.{same_Some, none-some}
use Rattle.pz_rules.specs.pz_state.declared.state.FrameId.{FrameId}
use Rattle.pz_rules.specs.declared.term.Term.{Term}
use Rattle.pz_rules.specs.declared.term.Term.TheVariants as form
use Rattle.pz_rules.specs.declared.term.Term.TheFolds.{the_lemmas}
use Rattle.pz_rules.specs.Terms as terms
use Rattle.pz_rules.specs.Terms.{Terms, no_terms, and, count, term_at, parallel, select}
use Rattle.pz_rules.specs.Leaving.{replaced, joined}
use Rattle.pz_rules.specs.View.{term_view, terms_view}
use Rattle.pz_rules.specs.Places.{MayActIn}
use Rattle.pz_rules.specs.Settings.{left_by}
use Rattle.pz_term_residual.specs.declared.levels.Level.TheVariants as level
use Rattle.pz_term_residual.specs.devices.Unwound.{IsInside}

-- parts side by side

count_is : (ts : List Term) → count (terms_view ts) ≡ length ts
count_is [] = refl
count_is (t ∷ ts) = ap suc (count_is ts)

part_is : (ts : List Term) (i : ℕ) (t : Term) → slice_get ts i ≡ Some t → term_view t ≡ term_at (terms_view ts) i
part_is [] i t is = absurd (none-some t is)
part_is (x ∷ ts) zero t is = ap term_view (sym (same_Some x t is))
part_is (x ∷ ts) (suc i) t is = part_is ts i t is

pub replaced_is : (ts : List Term) (i : ℕ) (t : Term) → terms_view (slice_set ts i t) ≡ replaced (terms_view ts) i (term_view t)
replaced_is [] i t = refl
replaced_is (x ∷ ts) zero t = refl
replaced_is (x ∷ ts) (suc i) t = ap (and (term_view x)) (replaced_is ts i t)

replaced_again : (ts : Terms) (i : ℕ) (x y : terms.Term) → replaced ts i y ≡ replaced (replaced ts i x) i y
replaced_again no_terms i x y = refl
replaced_again (and t ts) zero x y = refl
replaced_again (and t ts) (suc i) x y = ap (and t) (replaced_again ts i x y)

-- once another stands in the place of a part
without_part : (ts us : List Term) (i : ℕ) (other : Term) → us ≡ slice_set ts i other → (x : terms.Term) → replaced (terms_view ts) i x ≡ replaced (terms_view us) i x
without_part ts us i other is x = replaced_again (terms_view ts) i (term_view other) x ∙ ap (λ (vs : Terms). replaced vs i x) (sym (replaced_is ts i other) ∙ ap terms_view (sym is))

-- what a step in gives

pub parallel_inside : (f : FrameId) (ts vs us ws : List Term) (i : ℕ) (t : Term) → vs ≡ ts → slice_get vs i ≡ Some t → us ≡ slice_set vs i form.Done → ws ≡ us → i < length ts
    → IsInside f.0 (parallel (terms_view ts)) i (record { level = level.Parallel ws i; frame = f; term = t })
parallel_inside f ts vs us ws i t same got emptied kept within =
    let is : ws ≡ slice_set ts i form.Done = kept ∙ emptied ∙ ap (λ (l : List Term). slice_set l i form.Done) same in
    record {
      part = part_is vs i t got ∙ ap (λ (l : List Term). term_at (terms_view l) i) same;
      stands = refl;
      round = λ h s x. ap (λ (rs : Terms). left_by s (joined rs)) (without_part ts ws i form.Done is x);
      place = omega (arith, within, ap (λ (l : List Term). length l) is, length-set ts i form.Done);
    }

pub select_inside : (f : FrameId) (ts vs : List Term) (i : ℕ) (t : Term) → vs ≡ ts → slice_get vs i ≡ Some t → IsInside f.0 (select (terms_view ts)) i (record { level = level.Gone; frame = f; term = t })
select_inside f ts vs i t same got = record {
  part = part_is vs i t got ∙ ap (λ (l : List Term). term_at (terms_view l) i) same;
  stands = refl;
  round = λ h s x. refl;
  place = tt;
}

-- where a child may act

shows_Par : (ts : List Term) → term_view (form.Par ts) ≡ parallel (terms_view ts)
shows_Par ts = search (rules, the_lemmas)

shows_Sel : (ts : List Term) → term_view (form.Sel ts) ≡ select (terms_view ts)
shows_Sel ts = search (rules, the_lemmas)

pub par_within : (t : Term) (parts : List Term) (i : ℕ) → t ≡ form.Par parts → MayActIn (term_view t) i → i < length parts
par_within t parts i is may =
    let inside : i < count (terms_view parts) = subst (λ (u : terms.Term). MayActIn u i) (ap term_view is ∙ shows_Par parts) may in
    omega (arith, inside, count_is parts)

pub sel_within : (t : Term) (parts : List Term) (i : ℕ) → t ≡ form.Sel parts → MayActIn (term_view t) i → i < length parts
sel_within t parts i is may =
    let inside : i < count (terms_view parts) = subst (λ (u : terms.Term). MayActIn u i) (ap term_view is ∙ shows_Sel parts) may in
    omega (arith, inside, count_is parts)
