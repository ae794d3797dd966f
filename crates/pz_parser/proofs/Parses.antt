-- What the rule for models promises, as the call that parses says it.
use Rattle.std.proofs.Common.{◌≡◌, ◌≢◌, ℕ, [], ◌++◌, Ok, Err, refl, ap, sym, ◌∙◌, arith}
use Rattle.std.specs.Prelude.{max}
use Rattle.std.proofs.lemmas.List.{append-nil}
use Rattle.pz_syntax.specs.declared.tokens.Pos.{Pos}
use Rattle.pz_syntax.specs.Classes.{ModelTree}
use Rattle.pz_syntax.specs.ModelText.{text}
use Rattle.pz_syntax.specs.ModelForm.{IsModel}
use Rattle.pz_syntax.specs.ModelNesting.{nesting}
use Rattle.pz_syntax.specs.ModelErasure.{erase}
use Rattle.pz_syntax.specs.ExpressionErasure.{origin}
use Rattle.pz_parser_cursor.specs.declared.refusal.Refusal.{Refusal}
use Rattle.pz_parser_cursor.specs.declared.refusal.Refusal.TheVariants as refusal
use Rattle.pz_parser_cursor.specs.devices.Input.{Tokens, marks}
use Rattle.pz_parser_cursor.specs.Places.{located, positions}
use Rattle.pz_parser_cursor.proofs.Reading.{done, marks_located}
use Rattle.pz_parser.specs.declared.error.ParseError.TheVariants.{NoMemory}
use Rattle.pz_parser.specs.devices.Models as spec
use Rattle.pz_parser.specs.ModelPlaces.{place_model}
use Rattle.pz_parser.specs.Parsing.{IsTextOf, IsInPlace}
use Rattle.pz_parser.specs.devices.Refused.{error_of}
use Rattle.pz_parser.proofs.ModelRules.{model_sound, model_complete}
use Rattle.pz_parser.proofs.Erasing.{erased_model}

tree_is : (x y : ModelTree × Tokens) → done x ≡ done y → x.0 ≡ y.0
tree_is x y e = let p : x ≡ y = cc in ap (λ q. q.0) p

module _ (limit : ℕ) (i : Tokens) where
  -- a model whose text the tokens are is the one that is read
  read_as : (t u : ModelTree) (j : Tokens) → IsTextOf limit i t → spec.model limit i ≡ Ok (u, j) → place_model (positions i) 0 t ≡ u
  read_as t u j f e = tree_is (place_model (positions i) 0 t, []) (u, j) (sym (model_complete limit i t (f.0, omega (arith, f.1)) f.2) ∙ e)

  pub found : (t : ModelTree) (j : Tokens) → spec.model limit i ≡ Ok (t, j) → IsTextOf limit i t
  found t j e =
      let s = model_sound limit i (t, j) e in
      (s.0.meets.0, omega (arith, s.0.meets.1), s.0.parts ∙ ap (λ r. text t ++ marks r) s.1 ∙ append-nil (text t))

  pub in_place : (t : ModelTree) (j : Tokens) → spec.model limit i ≡ Ok (t, j) → IsInPlace i t
  in_place t j e = sym (read_as t t j (found t j e) e)

  pub only : (t u : ModelTree) (j : Tokens) → spec.model limit i ≡ Ok (u, j) → IsTextOf limit i t → u ≡ place_model (positions i) 0 t
  only t u j e f = sym (read_as t u j f e)

  -- the text of a model is not refused
  pub not_refused : (t : ModelTree) (r : Refusal) → IsTextOf limit i t → spec.model limit i ≡ Err r → ⊥
  not_refused t r f e = let p = sym (model_complete limit i t (f.0, omega (arith, f.1)) f.2) ∙ e in absurd cc

pub no_refusal : (limit : ℕ) (i : Tokens) (end : Pos) (t : ModelTree) (r : Refusal) → (r ≢ refusal.NoMemory → spec.model limit i ≡ Err r) → IsTextOf limit i t → error_of i end r ≡ NoMemory
no_refusal limit i end t refusal.NoMemory e f = refl
no_refusal limit i end t (refusal.Syntax left) e f = absurd (not_refused limit i t (refusal.Syntax left) f (e (λ h. absurd cc)))
no_refusal limit i end t (refusal.TooNested left) e f = absurd (not_refused limit i t (refusal.TooNested left) f (e (λ h. absurd cc)))

-- ---- a text has one tree

pub one_placed : (limit : ℕ) (i : Tokens) (t u : ModelTree) → IsTextOf limit i t → IsTextOf limit i u → place_model (positions i) 0 t ≡ place_model (positions i) 0 u
one_placed limit i t u f g = read_as limit i t (place_model (positions i) 0 u) [] f (model_complete limit i u (g.0, omega (arith, g.1)) g.2)

pub one_tree : (t u : ModelTree) → IsModel t → IsModel u → text t ≡ text u → erase t ≡ erase u
one_tree t u p q e =
    let limit = max (nesting t) (nesting u) in
    let i = located (λ n. origin) 0 (text t) in
    let m = marks_located (λ n. origin) 0 (text t) in
    let read = model_complete limit i t (p, omega arith) m in
    sym (erased_model (positions i) 0 t) ∙ ap erase (only limit i u (place_model (positions i) 0 t) [] read (q, omega arith, m ∙ e)) ∙ erased_model (positions i) 0 u
