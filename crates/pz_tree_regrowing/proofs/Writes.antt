-- What is written under keys and read there.
use Rattle.std.proofs.Common.{◌≡◌, ◌<◌, ◌≤◌, ℕ, ◌+◌, Bool, true, false, eqb, List, [], ◌∷◌, ◌++◌, length, get_or, drop, Option, Some, None, refl, ap, sym, ◌∙◌, arith}
use Rattle.std.specs.Prelude.{OnSome, is_some, not, IfOk, OnOk, Result, Ok, Err, slice_set}
use Rattle.std.proofs.lemmas.List.{drop_more, drop_all, map-append}
use Rattle.pz_nodes.specs.Arena.{Arena, find, Updates}
use Rattle.pz_nodes_shapes.specs.declared.node.Node.{Node}
use Rattle.pz_nodes_shapes.specs.Rose.{Map}
use Rattle.pz_rules.specs.pz_state.declared.state.FrameId.{FrameId}
use Rattle.pz_tree_nodes.specs.Dropping.{numbers}
use Rattle.pz_tree_nodes.specs.declared.kept.Kept.{Kept}
use Rattle.pz_tree_nodes.specs.declared.node.Head.{Head}
use Rattle.pz_tree_nodes.specs.declared.node.What.{What}
use Rattle.pz_tree_nodes.specs.Keeping.{kept_done, joined}
use Rattle.pz_tree_nodes.proofs.Joins.{joined_associative, joined_none}
use Rattle.pz_tree_regrowing.specs.devices.Keeping.{kept_of_node, kept_in, kept_in_all}
use Rattle.pz_tree_regrowing.specs.devices.Levels.{there, all_there, IsWritten, IsFree, IsTaken, are_gone}

pub written : (a b : Arena (Node What)) (k : ℕ) (x : Node What) (o : Option (Node What)) → o ≡ find a k → OnSome o (Updates a b k (Some x)) → (find a k ≡ None → ⊥) → IsWritten (find a) (find b) k x.what.head x.kids x.what.kept
written a b k x None e u n = absurd (n (sym e))
written a b k x (Some y) e u n = record { written = u.changed; others = u.others }

pub freed : (a b : Arena (Node What)) (k : ℕ) → Updates a b k None → IsFree (find a) (find b) k
freed a b k u = record { vacant = u.changed; others = u.others }

pub taken : (a b : Arena (Node What)) (k i : ℕ) (left : Option ℕ) (was hollow : Node What) (head : Head) (keys : List (Option ℕ)) → Some was ≡ find a k → Updates a b k (Some hollow) → head ≡ was.what.head
    → (i < length was.kids → keys ≡ slice_set was.kids i left) → IsTaken (find a) (find b) k i left head keys
taken a b k i left was hollow head keys e u h c = record {
  was = was;
  stood = sym e;
  same = h;
  child = c;
  hollow = λ q. absurd (let p = u.changed in cc);
  others = u.others;
}

-- ------------------------------------------------------------ what is kept, key by key

pub kept_under : (m : Map What) (k : ℕ) (n : Node What) → Some n ≡ m k → n.what.kept ≡ kept_in m (Some k)
kept_under m k n e = ap kept_of_node e

pub kept_nowhere : (m : Map What) (k : ℕ) → None ≡ m k → kept_done ≡ kept_in m (Some k)
kept_nowhere m k e = ap kept_of_node e

module _ (m : Map What) (keys : List (Option ℕ)) where
  pub keeps_on : (i : ℕ) (all kept next : Kept) (key : Option ℕ) → i < length keys → key ≡ get_or keys i None → kept ≡ kept_in m key → next ≡ joined all kept
      → joined all (kept_in_all m (drop i keys)) ≡ kept_in_all m keys → joined next (kept_in_all m (drop (i + 1) keys)) ≡ kept_in_all m keys
  keeps_on i all kept next key h e k n so_far =
      ap (λ z. joined z (kept_in_all m (drop (i + 1) keys))) n ∙ joined_associative all kept (kept_in_all m (drop (i + 1) keys))
      ∙ ap (λ z. joined all (joined z (kept_in_all m (drop (i + 1) keys)))) (k ∙ ap (kept_in m) e) ∙ ap (λ z. joined all (kept_in_all m z)) (sym (drop_more keys i None h)) ∙ so_far

  pub counts_on : (i steps next old : ℕ) (key : Option ℕ) → i < length keys → key ≡ get_or keys i None → next ≡ steps + there key
      → steps + all_there (drop i keys) ≡ old + all_there keys → next + all_there (drop (i + 1) keys) ≡ old + all_there keys
  counts_on i steps next old key h e n so_far =
      let one : all_there (drop i keys) ≡ there key + all_there (drop (i + 1) keys) = ap all_there (drop_more keys i None h) ∙ ap (λ z. there z + all_there (drop (i + 1) keys)) (sym e) in
      omega (arith, n, so_far, one)

  pub kept_at_last : (i : ℕ) (all : Kept) → length keys ≤ i → joined all (kept_in_all m (drop i keys)) ≡ kept_in_all m keys → all ≡ kept_in_all m keys
  kept_at_last i all h so_far = sym (joined_none all) ∙ ap (λ z. joined all (kept_in_all m z)) (sym (drop_all i keys h)) ∙ so_far

  pub counted_at_last : (i steps old : ℕ) → length keys ≤ i → steps + all_there (drop i keys) ≡ old + all_there keys → steps ≡ old + all_there keys
  counted_at_last i steps old h so_far =
      let none : all_there (drop i keys) ≡ 0 = ap all_there (drop_all i keys h) in
      omega (arith, so_far, none)

-- ------------------------------------------------------------ keys that are gone

pub gone_on : (keys : List (Option ℕ)) (i : ℕ) (all : Bool) → i < length keys → get_or keys i None ≡ None → are_gone (drop i keys) ≡ all → are_gone (drop (i + 1) keys) ≡ all
gone_on keys i all h e so_far = sym (ap are_gone (drop_more keys i None h) ∙ ap (λ z. are_gone (z ∷ drop (i + 1) keys)) e) ∙ so_far

pub one_there : (keys : List (Option ℕ)) (i k : ℕ) → i < length keys → get_or keys i None ≡ Some k → are_gone (drop i keys) ≡ false
one_there keys i k h e = ap are_gone (drop_more keys i None h) ∙ ap (λ z. are_gone (z ∷ drop (i + 1) keys)) e

pub all_passed : (keys : List (Option ℕ)) (i : ℕ) → length keys ≤ i → are_gone (drop i keys) ≡ true
all_passed keys i h = ap are_gone (drop_all i keys h)

-- ------------------------------------------------------------ answers

pub both_ok : {T E : Type 0} (r : Result T E) (P R : T → Type 0) (Q : Type 0) → ((x : T) → P x → Q → R x) → IfOk r P → OnOk r Q → IfOk r R
both_ok (Ok x) P R Q f p q = f x p q
both_ok (Err e) P R Q f p q = tt

pub three_ok : {T E : Type 0} (r : Result T E) (P R : T → Type 0) (Q S : Type 0) → ((x : T) → P x → Q → S → R x) → IfOk r P → OnOk r Q → OnOk r S → IfOk r R
three_ok (Ok x) P R Q S f p q s = f x p q s
three_ok (Err e) P R Q S f p q s = tt

pub is_gone : (o : Option ℕ) (b : Bool) → is_some o ≡ not b → b ≡ true → o ≡ None
is_gone None b e h = refl
is_gone (Some k) true e h = absurd cc
is_gone (Some k) false e h = absurd cc

pub is_there : (o : Option ℕ) (b : Bool) → is_some o ≡ not b → b ≡ false → o ≡ None → ⊥
is_there None true e h n = absurd cc
is_there None false e h n = absurd cc
is_there (Some k) b e h n = absurd cc

pub one_more : (was now : List FrameId) (own : FrameId) → now ≡ was ++ (own ∷ []) → numbers now ≡ numbers was ++ (own.0 ∷ [])
one_more was now own e = ap numbers e ∙ map-append (λ (f : FrameId). f.0) was (own ∷ [])

-- ------------------------------------------------------------ lists

pub none_in : {A : Type 0} (xs : List A) → eqb (length xs) 0 ≡ true → xs ≡ []
none_in [] e = refl
none_in (x ∷ xs) e = absurd (let f : length (x ∷ xs) ≡ 0 = grind arith in omega (arith, f))

pub some_in : {A : Type 0} (xs : List A) → eqb (length xs) 0 ≡ false → xs ≡ [] → ⊥
some_in [] e n = absurd cc
some_in (x ∷ xs) e n = absurd cc

pub none_long : {A : Type 0} (xs : List A) → length xs ≡ 0 → xs ≡ []
none_long [] e = refl
none_long (x ∷ xs) e = absurd (omega (arith, e))
