-- Whether C13 or C18 is violated, word by word.
use Rattle.std.proofs.Common.{◌≡◌, ◌∙◌, refl, sym, subst, ℕ, zero, suc, Bool, true, false, ◌||◌, IsTrue, List, [], ◌∷◌, Some, slice_get, arith, ◌⊎◌, inl, inr}
use Rattle.pz_classes_code.specs.pz_syntax.declared.tokens.Pos.{Pos}
use Rattle.std.specs.List.{Contains, list_any}
use Rattle.pz_classes_code.specs.pz_syntax.Classes.{DeclTree, ModelTree}
use Rattle.pz_classes_mentions.specs.declared.mention.Mention.{Mention}
use Rattle.pz_classes_mentions.specs.declared.local_scope.LocalScope.{LocalScope}
use Rattle.pz_classes_mentions.specs.Declarations.{parts}
use Rattle.pz_check_violations.specs.declared.violation.Violation.{Violation}
use Rattle.pz_classes.specs.pz_classes_rules.Numbers.{declaration}
use Rattle.pz_classes.specs.pz_classes_rules.Words.{Mentions, place}
use Rattle.pz_classes.specs.pz_classes_rules.NameRules.{breaks_c13, breaks_c18}
use Rattle.pz_classes.specs.pz_classes_rules.WordRules.{BreaksWord, c5, c6, c7, c8, c9, c10, c11, c12, c13, c18, c21, c22}
use Rattle.pz_check_violations.specs.Order.{violation}
use Rattle.pz_check_names.specs.devices.Unsized.{is_unsized, is_unsized_part, is_unsized_class, is_unsized_model}
use Rattle.pz_check_names.proofs.Lists.{none_in, contained_cases, contained_first, contained_later}

or_left : (a b : Bool) → IsTrue a → IsTrue (a || b)
or_left true b is = refl
or_left false b is = cc

or_right : (a b : Bool) → IsTrue b → IsTrue (a || b)
or_right true b is = refl
or_right false b is = is

module _ {X : Type 0} (test : X → Bool) where
  record Passing (xs : List X) : Type 0 where
    element : X
    place_of : ℕ
    at : slice_get xs place_of ≡ Some element
    there : Contains xs element
    passes : IsTrue (test element)

  found : (xs : List X) → IsTrue (list_any test xs) → Passing xs
  found [] is = cc
  found (x ∷ xs) is = by_test (λ later. found xs later) (test x) refl
    where
      by_test : (IsTrue (list_any test xs) → Passing xs) → (b : Bool) → test x ≡ b → Passing (x ∷ xs)
      by_test rest true here = record { element = x; place_of = 0; at = refl; there = contained_first x xs; passes = here }
      by_test rest false here =
          let r = rest (rw here at is) in
          record { element = r.element; place_of = suc r.place_of; at = r.at; there = contained_later x xs r.element r.there; passes = r.passes }

  passing : (xs : List X) (x : X) → Contains xs x → IsTrue (test x) → IsTrue (list_any test xs)
  passing [] x here is = absurd (none_in x here)
  passing (y ∷ ys) x here is = by_part (λ later. passing ys x later is) (contained_cases y ys x here)
    where
      by_part : (Contains ys x → IsTrue (list_any test ys)) → (y ≡ x) ⊎ Contains ys x → IsTrue (list_any test (y ∷ ys))
      by_part rest (inl same) = or_left (test y) (list_any test ys) (subst (λ (z : X). IsTrue (test z)) (sym same) is)
      by_part rest (inr later) = or_right (test y) (list_any test ys) (rest later)

  passing_at : (xs : List X) (i : ℕ) (x : X) → slice_get xs i ≡ Some x → IsTrue (test x) → IsTrue (list_any test xs)
  passing_at [] i x here is = cc
  passing_at (y ∷ ys) zero x here is =
      let same : y ≡ x = cc in
      or_left (test y) (list_any test ys) (subst (λ (z : X). IsTrue (test z)) (sym same) is)
  passing_at (y ∷ ys) (suc i) x here is = or_right (test y) (list_any test ys) (passing_at ys i x here is)

module _ (m : ModelTree) where
  abbrev At : Pos → Type 0
  At pos = BreaksWord m (violation 13 pos) ⊎ BreaksWord m (violation 18 pos)

  at_word : (c : ℕ) (d : DeclTree) (p : LocalScope) (x : Mention) → Mentions m c d p x → IsTrue (is_unsized m x) → (pos : Pos) × At pos
  at_word c d p x at is = by_rule (breaks_c13 m x) refl
    where
      by_rule : (b : Bool) → breaks_c13 m x ≡ b → (pos : Pos) × At pos
      by_rule true does = (place x, inl (c13 c d p x at does))
      by_rule false does = (place x, inr (c18 c d p x at (rw does at is)))

  sound : IsTrue (is_unsized_model m) → (pos : Pos) × At pos
  sound is =
      let class = found (is_unsized_class m) m.decls is in
      let part = found (is_unsized_part m) (parts class.element) class.passes in
      let word = found (is_unsized m) part.element.mentions part.passes in
      at_word (suc class.place_of) class.element part.element word.element (record { declared = class.at; part_of = part.there; mentioned = word.there }) word.passes

  in_model : (c : ℕ) (d : DeclTree) → declaration m c ≡ Some d → IsTrue (is_unsized_class m d) → IsTrue (is_unsized_model m)
  in_model zero d here is = cc
  in_model (suc i) d here is = passing_at (is_unsized_class m) m.decls i d here is

  is_word : (c : ℕ) (d : DeclTree) (p : LocalScope) (x : Mention) → Mentions m c d p x → IsTrue (is_unsized m x) → IsTrue (is_unsized_model m)
  is_word c d p x at is = in_model c d at.declared (passing (is_unsized_part m) (parts d) p at.part_of (passing (is_unsized m) p.mentions x at.mentioned is))

  abbrev OneOfThem : ℕ → Type 0
  OneOfThem rule = (rule ≡ 13) ⊎ (rule ≡ 18)

  other : (rule : ℕ) → (rule ≡ 13 → ⊥) → (rule ≡ 18 → ⊥) → OneOfThem rule → IsTrue (is_unsized_model m)
  other rule first second (inl is) = absurd (first is)
  other rule first second (inr is) = absurd (second is)

  by_rule : (v : Violation) → BreaksWord m v → OneOfThem v.rule → IsTrue (is_unsized_model m)
  by_rule _ (c5 c d p x at does) is = other 5 (λ e. omega arith) (λ e. omega arith) is
  by_rule _ (c6 c d p x at does) is = other 6 (λ e. omega arith) (λ e. omega arith) is
  by_rule _ (c7 c d p x at does) is = other 7 (λ e. omega arith) (λ e. omega arith) is
  by_rule _ (c8 c d p x at does) is = other 8 (λ e. omega arith) (λ e. omega arith) is
  by_rule _ (c9 c d p x at does) is = other 9 (λ e. omega arith) (λ e. omega arith) is
  by_rule _ (c10 c d p x at does) is = other 10 (λ e. omega arith) (λ e. omega arith) is
  by_rule _ (c11 c d p x at does) is = other 11 (λ e. omega arith) (λ e. omega arith) is
  by_rule _ (c12 c d p x at does) is = other 12 (λ e. omega arith) (λ e. omega arith) is
  by_rule _ (c13 c d p x at does) is = is_word c d p x at (or_left (breaks_c13 m x) (breaks_c18 x) does)
  by_rule _ (c18 c d p x at does) is = is_word c d p x at (or_right (breaks_c13 m x) (breaks_c18 x) does)
  by_rule _ (c21 c d p x at does) is = other 21 (λ e. omega arith) (λ e. omega arith) is
  by_rule _ (c22 c d p x at does) is = other 22 (λ e. omega arith) (λ e. omega arith) is

  complete : (pos : Pos) → At pos → IsTrue (is_unsized_model m)
  complete pos (inl broken) = by_rule _ broken (inl refl)
  complete pos (inr broken) = by_rule _ broken (inr refl)

  pub some_broken : (has : Bool) → has ≡ is_unsized_model m → has ≡ true → (pos : Pos) × At pos
  some_broken has is does = sound (sym is ∙ does)

  pub none_broken : (has : Bool) → has ≡ is_unsized_model m → has ≡ false → (pos : Pos) → At pos → ⊥
  none_broken has is not_so pos broken = let wrong : false ≡ true = sym not_so ∙ is ∙ complete pos broken in cc
