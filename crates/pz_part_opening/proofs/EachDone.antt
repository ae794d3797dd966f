-- Terms side by side of which nothing is left, counted one further.
use Rattle.std.proofs.Common.{◌≡◌, ◌<◌, ◌+◌, ℕ, Bool, true, false, ◌&&◌, List, length, drop, get_or, sym, ap, ◌∙◌}
use Rattle.std.proofs.lemmas.List.{drop_more}
use Rattle.pz_rules.specs.declared.term.Term.{Term}
use Rattle.pz_rules.specs.Leaving.{is_done, all_done}
use Rattle.pz_rules.specs.View.{term_view, terms_view}

all_from : (ts : List Term) (i : ℕ) (t : Term) → i < length ts → t ≡ get_or ts i t → all_done (terms_view (drop i ts)) ≡ (is_done (term_view t) && all_done (terms_view (drop (i + 1) ts)))
all_from ts i t within is =
    ap (λ (l : List Term). all_done (terms_view l)) (drop_more ts i t within)
    ∙ ap (λ (u : Term). is_done (term_view u) && all_done (terms_view (drop (i + 1) ts))) (sym is)

pub one_undone : (ts : List Term) (i : ℕ) (t : Term) (b : Bool) → i < length ts → t ≡ get_or ts i t → b ≡ is_done (term_view t) → b ≡ false → all_done (terms_view (drop i ts)) ≡ all_done (terms_view ts) → false ≡ all_done (terms_view ts)
one_undone ts i t b within is tells is_false so_far = ap (λ (x : Bool). x && all_done (terms_view (drop (i + 1) ts))) (sym is_false ∙ tells) ∙ sym (all_from ts i t within is) ∙ so_far

pub one_done : (ts : List Term) (i : ℕ) (t : Term) (b : Bool) → i < length ts → t ≡ get_or ts i t → b ≡ is_done (term_view t) → b ≡ true → all_done (terms_view (drop i ts)) ≡ all_done (terms_view ts) → all_done (terms_view (drop (i + 1) ts)) ≡ all_done (terms_view ts)
one_done ts i t b within is tells is_true so_far = ap (λ (x : Bool). x && all_done (terms_view (drop (i + 1) ts))) (sym is_true ∙ tells) ∙ sym (all_from ts i t within is) ∙ so_far
