-- Classes, their rows and their bodies, counted one class further.
use Rattle.std.proofs.Common.{◌≡◌, refl, sym, ap, ◌∙◌, ℕ, suc, ◌+◌, ◌<◌, List, [], ◌∷◌, ◌++◌, append_assoc, map, length, take, drop, drop-cons, Some, slice_get, get_or, zero, ◌≤◌, arith}
use Rattle.std.proofs.lemmas.List.{length-map, map-append, take_more, take_all}
use Rattle.pz_classes_code.specs.pz_syntax.declared.clusters.Decl.{Decl}
use Rattle.pz_classes_code.specs.pz_syntax.Classes.{DeclTree, ModelTree}
use Rattle.pz_classes_code.specs.pz_syntax.ClassView.{decl_view}
use Rattle.pz_classes.specs.declared.entry.Entry.{Entry}
use Rattle.pz_classes_rules.specs.Ancestors.{ancestors}
use Rattle.pz_classes.specs.devices.Inherited.{HasMembers}
use Rattle.pz_classes_rules.specs.Bodies.{BodyTree, own_bodies, bodies_from}
use Rattle.pz_classes.specs.devices.Rows.{Row, row, rows, row_view}
use Rattle.pz_classes.proofs.Belongs.{entries_length}
use Rattle.pz_classes_rules.proofs.Further.{further}
use Rattle.pz_classes.proofs.RowLookups.{entry_is, rows_length, row_at}

-- the rows of one class more
pub rows_step : (m : ModelTree) (es : List Entry) (e : Entry) (c : ℕ) → c < suc (length m.decls) → row_view e ≡ row m c → map row_view es ≡ take c (rows m) → map row_view (es ++ e ∷ []) ≡ take (c + 1) (rows m)
rows_step m es e c below is before =
    let within : c < length (rows m) = (let count = rows_length m in omega arith) in
    map-append row_view es (e ∷ []) ∙ ap (λ (rs : List Row). rs ++ row_view e ∷ []) before ∙ ap (λ (r : Row). take c (rows m) ++ r ∷ []) (is ∙ sym (row_at m c below)) ∙ sym (take_more (rows m) c (row m c) within)

-- what is left of a list, one element further
pub one_further : {X : Type 0} (xs : List X) (n : ℕ) (x : X) (rest : List X) → drop n xs ≡ x ∷ rest → (slice_get xs n ≡ Some x) × (drop (n + 1) xs ≡ rest)
one_further xs n x rest is = let at = further xs n x rest is in let on : n + 1 ≡ suc n = omega arith in (at.0, rw on at.1)

pub nothing_left : {X : Type 0} (xs : List X) → length xs ≡ 0 → xs ≡ []
nothing_left [] none = refl
nothing_left (x ∷ xs) none = absurd (omega arith)

past_end : {X : Type 0} (xs : List X) (n : ℕ) → drop n xs ≡ [] → length xs ≤ n
past_end [] n none = omega arith
past_end (x ∷ xs) zero none = cc
past_end (x ∷ xs) (suc n) none = let rest : length xs ≤ n = past_end xs n none in omega arith

-- the rows of all classes
pub all_rows : {X : Type 0} (m : ModelTree) (xs : List X) (n : ℕ) → length xs ≡ suc (length m.decls) → drop n xs ≡ [] → take n (rows m) ≡ rows m
all_rows m xs n sized none = take_all n (rows m) (let past = past_end xs n none in let count = rows_length m in omega arith)

-- the bodies of one class more
pub bodies_step : (m : ModelTree) (ds : List Decl) (x : Decl) (old new whole : List BodyTree) (i number : ℕ) → i < length ds → x ≡ get_or ds i x → number ≡ i
    → new ≡ old ++ own_bodies m (number + 1) (decl_view x) → old ++ bodies_from m (suc number) (map decl_view (drop i ds)) ≡ whole
    → new ++ bodies_from m (suc (number + 1)) (map decl_view (drop (i + 1) ds)) ≡ whole
bodies_step m ds x old new whole i number within here counted pushed before =
    let at : number + 1 ≡ suc number = omega arith in
    let behind : i + 1 ≡ suc i = omega arith in
    let first : drop i ds ≡ x ∷ drop (suc i) ds = drop-cons ds i x within ∙ ap (λ (y : Decl). y ∷ drop (suc i) ds) (sym here) in
    let split : old ++ (own_bodies m (suc number) (decl_view x) ++ bodies_from m (suc (suc number)) (map decl_view (drop (suc i) ds))) ≡ whole = rw first at before in
    rw (pushed, at, behind, append_assoc) split

-- what is kept of a class has what it inherits and has of its own
pub has_members : (m : ModelTree) (es : List Entry) (e : Entry) (c : ℕ) → map row_view es ≡ rows m → c < length es → e ≡ get_or es c e → HasMembers m (ancestors m c) e.members
has_members m es e c are within here =
    let is : row_view e ≡ row m c = entry_is m es e c are within here in
    record {
      fields = ap (λ (r : Row). r.fields) is;
      variables = ap (λ (r : Row). r.variables) is;
      ports = ap (λ (r : Row). r.ports) is;
    }

-- each class that is declared has its entry
pub is_entry : (m : ModelTree) (es : List Entry) (ds : List Decl) (i number : ℕ) → map row_view es ≡ rows m → m.decls ≡ map decl_view ds → i < length ds → number ≡ i → number + 1 < length es
is_entry m es ds i number listed are within counted =
    let entries : length es ≡ suc (length m.decls) = entries_length m es listed in
    let decls : length m.decls ≡ length ds = ap (λ (l : List DeclTree). length l) are ∙ length-map ds decl_view in
    omega arith
