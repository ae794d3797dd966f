-- Processes and variables that were sought.
use Rattle.std.proofs.Common.{◌≡◌, ◌<◌, ◌≤◌, ◌+◌, ◌⊎◌, inl, inr, ℕ, Bool, true, false, List, [], length, get_or, Option, Some, None, sym, ap, subst, ◌∙◌, arith}
use Rattle.std.proofs.Math.Logic.{∥∥₁_elim}
use base.Stored.{Coded-set}
use Rattle.std.specs.Coded.{coded_ℕ, coded_list, le_prop}
use Rattle.std.specs.Prelude.{slice_get}
use Rattle.pz_classes_code.specs.Places.{place_in}
use Rattle.std.specs.Option.{option_map_or}
use Rattle.std.specs.Str.{bytes_eq}
use Rattle.std.proofs.lemmas.Slice.Eq.{bytes_eq-Decides}
use Rattle.std.proofs.lemmas.List.{length-map}
use Rattle.std.proofs.lemmas.Option.{slice_get-get_or, slice_get_within}
use Rattle.pz_classes_code.specs.pz_syntax.Classes.{ModelTree}
use Rattle.pz_rules.specs.pz_classes_rules.Kinds.{is_process}
use Rattle.pz_rules.specs.pz_classes_rules.Members.{variables, spelled}
use Rattle.pz_bind_levels.specs.Places.{Address}
use Rattle.pz_bind.specs.declared.net.Net.{Net}
use Rattle.pz_rules.specs.pz_bind_rules.Nest.{processes, class_at}
use Rattle.pz_rules.specs.pz_bind_rules.Names.{path}
use Rattle.pz_bind.specs.NetView.{HasProcess}
use Rattle.pz_bind.specs.devices.Nets.{IsNet, node_at}
use Rattle.pz_trace.specs.Labels.{path_of}
use Rattle.pz_debug_replies.specs.Shown.{IsVariable}
use Rattle.pz_debug_replies.specs.devices.Searching.{IsFirst, IsOfNone}
use Rattle.pz_debug_replies.proofs.Places.{le_or_lt}

-- texts, lists of names and numbers are those of a set

pub text_merely : {A : Type 0} (s t : List ℕ) → ∥ A ∥₁ → (A → s ≡ t) → s ≡ t
text_merely s t a is = ∥∥₁_elim a (Coded-set (coded_list coded_ℕ) s t) is

pub names_merely : {A : Type 0} (xs ys : List (List ℕ)) → ∥ A ∥₁ → (A → xs ≡ ys) → xs ≡ ys
names_merely xs ys a is = ∥∥₁_elim a (Coded-set (coded_list (coded_list coded_ℕ)) xs ys) is

pub number_merely : {A : Type 0} (m n : ℕ) → ∥ A ∥₁ → (A → m ≡ n) → m ≡ n
number_merely m n a is = ∥∥₁_elim a (Coded-set coded_ℕ m n) is

-- the processes of a net are those of its model

process_there : (m : ModelTree) (net : Net) → IsNet m net → (i : ℕ) → HasProcess net i → slice_get (processes m) i ≡ Some (get_or (processes m) i [])
process_there m net is i below =
    let count : length net.nodes ≡ length (processes m) = ap (λ xs. length xs) is.nodes ∙ length-map (processes m) (node_at m) in
    slice_get-get_or (processes m) i [] (subst (λ (n : ℕ). i < n) count below)

pub path_is : (m : ModelTree) (net : Net) (i : ℕ) (text : List ℕ) → HasProcess net i → ((t : ModelTree) (place : Address) → IsNet t net → slice_get (processes t) i ≡ Some place → text ≡ path t place) → ∥ IsNet m net ∥₁ → text ≡ path_of m i
path_is m net i text below says is = text_merely text (path_of m i) is (λ known.
    let there = process_there m net known i below in
    says m (get_or (processes m) i []) known there ∙ sym (ap (λ o. option_map_or (path m) o []) there))

pub process_stands : (m : ModelTree) (net : Net) (i : ℕ) → ∥ IsNet m net ∥₁ → i < length (processes m) → HasProcess net i
process_stands m net i is within = ∥∥₁_elim is le_prop (λ known.
    let count : length net.nodes ≡ length (processes m) = ap (λ xs. length xs) known.nodes ∙ length-map (processes m) (node_at m) in
    subst (λ (n : ℕ). i < n) (sym count) within)

-- processes by their paths, as the definition of shown variables says it

module _ (m : ModelTree) (word : List ℕ) where
  path_at : (i : ℕ) (place : Address) → slice_get (processes m) i ≡ Some place → path_of m i ≡ path m place
  path_at i place is = ap (λ o. option_map_or (path m) o []) is

  pub none_named : (name : List ℕ) → IsOfNone m word → (i v : ℕ) → IsVariable m word name i v → ⊥
  none_named name none i v x = none i (slice_get_within (processes m) i x.place x.is_process) (path_at i x.place x.is_process ∙ x.is_path)

  module _ (i : ℕ) (is : IsFirst m word i) where
    abbrev place : Address
    place = get_or (processes m) i []

    pub there : slice_get (processes m) i ≡ Some place
    there = slice_get-get_or (processes m) i [] is.there

    -- whichever variable of a process with this path that is, it is of this one
    same_process : (name : List ℕ) (j v : ℕ) → IsVariable m word name j v → j ≡ i
    same_process name j v x =
        by (le_or_lt j i)
      where
        by : (j ≤ i) ⊎ (i < j) → j ≡ i
        by (inr above) = absurd (x.first i place above there (sym (path_at i place there) ∙ is.is_path))
        by (inl up_to) = at (le_or_lt i j)
          where
            at : (i ≤ j) ⊎ (j < i) → j ≡ i
            at (inl also) = omega (arith, up_to, also)
            at (inr below) = absurd (is.first j below (path_at j x.place x.is_process ∙ x.is_path))

    pub no_variable : (name : List ℕ) → place_in (spelled (variables m (class_at m place))) name ≡ None → (j v : ℕ) → IsVariable m word name j v → ⊥
    no_variable name absent j v x =
        let same : x.place ≡ place = some_is (sym x.is_process ∙ ap (slice_get (processes m)) (same_process name j v x) ∙ there) in
        none_some (sym absent ∙ subst (λ (p : Address). place_in (spelled (variables m (class_at m p))) name ≡ Some v) same x.is_variable)
      where
        some_is : {p q : Address} → Some p ≡ Some q → p ≡ q
        some_is e = cc

        none_some : {n : ℕ} → None ≡ Some n → ⊥
        none_some e = cc

    pub a_variable : (name : List ℕ) (v : ℕ) → place_in (spelled (variables m (class_at m place))) name ≡ Some v → IsVariable m word name i v
    a_variable name v found = record {
      place = place;
      is_process = there;
      is_path = sym (path_at i place there) ∙ is.is_path;
      first = λ j other below at same. is.first j below (path_at j other at ∙ same);
      is_variable = found;
    }

-- what was found by another name of the model

module _ (m n : ModelTree) (word name : List ℕ) (i : ℕ) (is : IsFirst m word i) (o : Option ℕ) (same : n ≡ m)
    (says : (place : Address) → slice_get (processes n) i ≡ Some place → o ≡ place_in (spelled (variables n (class_at n place))) name) where
  found_as : o ≡ place_in (spelled (variables m (class_at m (get_or (processes m) i [])))) name
  found_as =
      subst (λ (k : ModelTree). (place : Address) → slice_get (processes k) i ≡ Some place → o ≡ place_in (spelled (variables k (class_at k place))) name) same says
      (get_or (processes m) i []) (there m word i is)

  pub is_there : (v : ℕ) → o ≡ Some v → IsVariable m word name i v
  is_there v found = a_variable m word i is name v (sym found_as ∙ found)

  pub is_none : o ≡ None → (j v : ℕ) → IsVariable m word name j v → ⊥
  is_none absent = no_variable m word i is name (sym found_as ∙ absent)

-- one more process without the path
pub not_yet : (m : ModelTree) (word : List ℕ) (n : ℕ) → ((j : ℕ) → j < n → path_of m j ≡ word → ⊥) → (path_of m n ≡ word → ⊥) → (j : ℕ) → j < n + 1 → path_of m j ≡ word → ⊥
not_yet m word n before differ j below same = by (le_or_lt n j)
  where
    by : (n ≤ j) ⊎ (j < n) → ⊥
    by (inl last) = let e : j ≡ n = omega (arith, last, below) in differ (ap (path_of m) (sym e) ∙ same)
    by (inr earlier) = before j earlier same

-- what a comparison of two texts says

pub same_text : (a b : List ℕ) (r : Bool) → r ≡ bytes_eq a b → r ≡ true → a ≡ b
same_text a b r is holds = (bytes_eq-Decides a b).0 (sym is ∙ holds)

pub other_text : (a b : List ℕ) (r : Bool) → r ≡ bytes_eq a b → r ≡ false → a ≡ b → ⊥
other_text a b r is fails same = apart (sym ((bytes_eq-Decides a b).1 same) ∙ sym is ∙ fails)
  where
    apart : true ≡ false → ⊥
    apart e = cc
