-- What is too large in a class is so in its parent, where the class itself declares none of the methods
-- that are kept: so it is in one that declares one of them.
use Rattle.std.proofs.Common.{◌≡◌, refl, sym, ap, subst, ◌∙◌, ℕ, zero, suc, ◌+◌, ◌<◌, ◌≤◌, ◌⊎◌, inl, inr, Bool, true, List, [], ◌∷◌, length, Option, Some, None, IsTrue, slice_get, arith}
use Rattle.std.specs.List.{Contains, sum_by}
use Rattle.std.specs.Option.{option_map_or, option_or}
use Rattle.std.proofs.lemmas.List.Sums.{sum_by-cons}
use Rattle.pz_classes.specs.pz_syntax.declared.names.Id.{Id}
use Rattle.pz_classes.specs.pz_syntax.Classes.{DeclTree, ProcessMethodTree, ModelTree}
use Rattle.pz_classes_lineage.specs.Reached.{GoesRound}
use Rattle.pz_classes.specs.pz_classes_rules.declared.method_id.Counts.TheVariants.{Process}
use Rattle.pz_classes.specs.pz_classes_rules.declared.method_id.MethodId.{MethodId}
use Rattle.pz_classes.specs.pz_classes_rules.Ancestors.{parent, ancestors}
use Rattle.pz_classes.specs.pz_classes_rules.Kinds.{is_process}
use Rattle.pz_classes.specs.pz_classes_rules.Methods.{Signature, method_id, methods_before, nearest, own_method, process_method, signatures}
use Rattle.pz_classes.specs.pz_classes_rules.Numbers.{declaration}
use Rattle.pz_classes_openings.specs.Methods.{method_at}
use Rattle.pz_classes_openings.specs.Openings.{begun_at, calls_at, statements_at, called, of_called, opened_to, spread_to}
use Rattle.pz_check_openings.specs.declared.outline.Outline.{Outline}
use Rattle.pz_check_openings.specs.devices.Outlines.{outline_of, outlines}
use Rattle.pz_check_openings.specs.devices.Suspects.{AreMarked, is_marked}
use Rattle.pz_check_openings.specs.devices.Through.{plain}
use Rattle.pz_check_openings.proofs.Climbing.{line_of, Owned, owned}
use Rattle.pz_check_openings.proofs.Enough.{Enough}
use Rattle.pz_check_openings.proofs.Kin.{Reached, reached_by, stays_heavy, stays_reached}
use Rattle.pz_check_openings.proofs.Listed.{outline_is}

-- a sum that is no more, but for something at one of its elements
sum_or : (D : Type 0) (f g : Id → ℕ) (xs : List Id) → ((x : Id) → Contains xs x → D ⊎ (f x ≤ g x)) → D ⊎ (sum_by f xs ≤ sum_by g xs)
sum_or D f g [] each = inr (omega arith)
sum_or D f g (x ∷ xs) each = by_both (each x (0, omega arith, refl)) (sum_or D f g xs (λ y (i, below, is). each y (suc i, omega arith, is)))
  where
    by_both : D ⊎ (f x ≤ g x) → D ⊎ (sum_by f xs ≤ sum_by g xs) → D ⊎ (sum_by f (x ∷ xs) ≤ sum_by g (x ∷ xs))
    by_both (inl one) rest = inl one
    by_both (inr one) (inl other) = inl other
    by_both (inr one) (inr rest) =
        let s : sum_by f (x ∷ xs) ≡ f x + sum_by f xs = sum_by-cons f x xs in
        let t : sum_by g (x ∷ xs) ≡ g x + sum_by g xs = sum_by-cons g x xs in
        inr (omega (arith, s, t, one, rest))

-- the calls of a method are those of its outline
module _ (m : ModelTree) (k : ℕ) (o : Outline) (there : slice_get (outlines m) k ≡ Some (Some o)) where
  begun_of : (x : Id) → Contains (begun_at m k) x → Contains o.begun x
  begun_of x among = by_method (outline_is m k o there)
    where
      by_method : (r : ProcessMethodTree) × (method_at m k ≡ Some r) × (o ≡ outline_of r) → Contains o.begun x
      by_method (r, at, is) = let here : Contains (outline_of r).begun x = rw at at among in subst (λ (q : Outline). Contains q.begun x) (sym is) here

  calls_of : (x : Id) → Contains (calls_at m k) x → Contains o.calls x
  calls_of x among = by_method (outline_is m k o there)
    where
      by_method : (r : ProcessMethodTree) × (method_at m k ≡ Some r) × (o ≡ outline_of r) → Contains o.calls x
      by_method (r, at, is) = let here : Contains (outline_of r).calls x = rw at at among in subst (λ (q : Outline). Contains q.calls x) (sym is) here

module _ (m : ModelTree) (those : List (Option Outline)) (e : Enough m those) (marks : List Bool) (are : AreMarked m those marks) where
  -- a process class with a mark
  pub record Seen (c : ℕ) : Type 0 where
    pub decl : DeclTree
    pub there : declaration m c ≡ Some decl
    pub process : IsTrue (is_process decl)
    pub marked : is_marked marks c ≡ true

  -- a class that declares one of those has a mark
  seen : (name : List ℕ) (inputs outputs c k : ℕ) (o : Outline) → slice_get those k ≡ Some (Some o) → own_method m (record { name = name; counts = Process inputs outputs }) c ≡ Some (method_id k) → Seen c
  seen name inputs outputs c k o here own = by_owned (owned m name inputs outputs c k own)
    where
      by_owned : Owned m name inputs outputs c k → Seen c
      by_owned w =
          let low : methods_before m (suc w.index) ≤ k = subst (λ (j : ℕ). methods_before m j ≤ k) w.numbered w.first in
          let high : k < methods_before m (suc w.index) + length (signatures w.decl) = subst (λ (j : ℕ). k < methods_before m j + length (signatures w.decl)) w.numbered w.last in
          record {
            decl = w.decl;
            there = ap (declaration m) w.numbered ∙ w.there;
            process = w.process;
            marked = ap (is_marked marks) w.numbered ∙ are w.index k w.decl o w.there here low high;
          }

  module _ (a p : ℕ) (line : ancestors m a ≡ a ∷ ancestors m p) where
    -- a call of a reached name means the same in the parent, or the class declares its method
    call_up : (x : Id) → e.reached x.name ≡ true → Seen a ⊎ (called m a x ≡ called m p x)
    call_up x named = by_own (own_method m (plain x) a) refl
      where
        whole : called m a x ≡ option_or (own_method m (plain x) a) (called m p x)
        whole = ap (nearest (own_method m (plain x))) line

        by_own : (y : Option MethodId) → own_method m (plain x) a ≡ y → Seen a ⊎ (called m a x ≡ called m p x)
        by_own None own = inr (whole ∙ ap (λ (y : Option MethodId). option_or y (called m p x)) own)
        by_own (Some n) own =
            let found : called m a x ≡ Some n = whole ∙ ap (λ (y : Option MethodId). option_or y (called m p x)) own in
            let r : Reached m those e n.0 = reached_by m those e a n.0 x found named in
            inl (seen x.name 0 0 a n.0 r.method (stays_reached m those e n.0 r) own)

    -- what a call opens as
    part_up : (depth : ℕ) → ((n : ℕ) → Reached m those e n → Seen a ⊎ (opened_to m a depth n ≤ opened_to m p depth n)) → (x : Id) → e.reached x.name ≡ true
        → Seen a ⊎ (of_called (opened_to m a depth) (called m a x) ≤ of_called (opened_to m p depth) (called m p x))
    part_up depth each x named = by_call (call_up x named)
      where
        by_method : (y : Option MethodId) → called m p x ≡ y → Seen a ⊎ (of_called (opened_to m a depth) y ≤ of_called (opened_to m p depth) y)
        by_method None is = inr (omega arith)
        by_method (Some n) is = each n.0 (reached_by m those e p n.0 x is named)

        by_call : Seen a ⊎ (called m a x ≡ called m p x) → Seen a ⊎ (of_called (opened_to m a depth) (called m a x) ≤ of_called (opened_to m p depth) (called m p x))
        by_call (inl one) = inl one
        by_call (inr same) = subst (λ (y : Option MethodId). Seen a ⊎ (of_called (opened_to m a depth) y ≤ of_called (opened_to m p depth) (called m p x))) (sym same) (by_method (called m p x) refl)

    opened_up : (depth n : ℕ) → Reached m those e n → Seen a ⊎ (opened_to m a depth n ≤ opened_to m p depth n)
    opened_up zero n r = inr (omega arith)
    opened_up (suc depth) n r =
        by_sum (sum_or (Seen a) (λ (x : Id). of_called (opened_to m a depth) (called m a x)) (λ (x : Id). of_called (opened_to m p depth) (called m p x)) (begun_at m n) (λ x among.
        part_up depth (opened_up depth) x (e.begun n r.method x r.there r.plain r.named (begun_of m n r.method r.there x among))))
      where
        by_sum : Seen a ⊎ (sum_by (λ x. of_called (opened_to m a depth) (called m a x)) (begun_at m n) ≤ sum_by (λ x. of_called (opened_to m p depth) (called m p x)) (begun_at m n))
            → Seen a ⊎ (opened_to m a (suc depth) n ≤ opened_to m p (suc depth) n)
        by_sum (inl one) = inl one
        by_sum (inr less) = inr (omega (arith, less))

    spread_up : (depth k : ℕ) (o : Outline) → slice_get (outlines m) k ≡ Some (Some o) → e.heavy o ≡ true → Seen a ⊎ (spread_to m a depth k ≤ spread_to m p depth k)
    spread_up depth k o there heavy =
        by_sum (sum_or (Seen a) (λ (x : Id). of_called (opened_to m a depth) (called m a x)) (λ (x : Id). of_called (opened_to m p depth) (called m p x)) (calls_at m k) (λ x among.
        part_up depth (opened_up depth) x (e.calls k o x there heavy (calls_of m k o there x among))))
      where
        by_sum : Seen a ⊎ (sum_by (λ x. of_called (opened_to m a depth) (called m a x)) (calls_at m k) ≤ sum_by (λ x. of_called (opened_to m p depth) (called m p x)) (calls_at m k))
            → Seen a ⊎ (spread_to m a depth k ≤ spread_to m p depth k)
        by_sum (inl one) = inl one
        by_sum (inr less) = inr (omega (arith, less))

  module _ (flat : (c : ℕ) → GoesRound (parent m) c → ⊥) (k depth : ℕ) (o : Outline) (there : slice_get (outlines m) k ≡ Some (Some o)) (heavy : e.heavy o ≡ true) where
    -- the method is one of the class, and too large there
    pub record IsLargeIn (c : ℕ) : Type 0 where
      pub finds : process_method m c o.name.name o.inputs o.outputs ≡ Some (method_id k)
      pub much : 1000000 < spread_to m c depth k

    pub record Risen : Type 0 where
      pub class : ℕ
      pub here : Seen class
      pub large : IsLargeIn class

    abbrev own : ℕ → Option MethodId
    own = own_method m (record { name = o.name.name; counts = Process o.inputs o.outputs })

    declares : (a : ℕ) (n : MethodId) → own a ≡ Some n → Some n ≡ Some (method_id k) → Seen a
    declares a n is same = seen o.name.name o.inputs o.outputs a k o (stays_heavy m those e k o there heavy) (is ∙ same)

    pub rise : (line : List ℕ) (a : ℕ) → line ≡ ancestors m a → IsLargeIn a → Risen
    rise [] a is large = let whole : [] ≡ a ∷ option_map_or (ancestors m) (parent m a) [] = is ∙ line_of m flat a in cc
    rise (c ∷ rest) a is large = by_parent (parent m a) refl (rise rest)
      where
        by_parent : (up : Option ℕ) → parent m a ≡ up → ((p : ℕ) → rest ≡ ancestors m p → IsLargeIn p → Risen) → Risen
        by_parent None up later = by_own (own a) refl
          where
            line : ancestors m a ≡ a ∷ []
            line = line_of m flat a ∙ ap (λ (u : Option ℕ). a ∷ option_map_or (ancestors m) u []) up

            by_own : (y : Option MethodId) → own a ≡ y → Risen
            by_own None is_own =
                let none : None ≡ Some (method_id k) = sym (ap (nearest own) line ∙ ap (λ (y : Option MethodId). option_or y None) is_own) ∙ large.finds in
                cc
            by_own (Some n) is_own =
                let same : Some n ≡ Some (method_id k) = sym (ap (nearest own) line ∙ ap (λ (y : Option MethodId). option_or y None) is_own) ∙ large.finds in
                record { class = a; here = declares a n is_own same; large = large }
        by_parent (Some p) up later = by_own (own a) refl
          where
            line : ancestors m a ≡ a ∷ ancestors m p
            line = line_of m flat a ∙ ap (λ (u : Option ℕ). a ∷ option_map_or (ancestors m) u []) up

            rest_is : rest ≡ ancestors m p
            rest_is = let whole : c ∷ rest ≡ a ∷ ancestors m p = is ∙ line in cc

            by_size : process_method m p o.name.name o.inputs o.outputs ≡ Some (method_id k) → Seen a ⊎ (spread_to m a depth k ≤ spread_to m p depth k) → Risen
            by_size finds (inl one) = record { class = a; here = one; large = large }
            by_size finds (inr less) = let much : 1000000 < spread_to m a depth k = large.much in later p rest_is (record { finds = finds; much = omega (arith, less, much) })

            whole : process_method m a o.name.name o.inputs o.outputs ≡ option_or (own a) (process_method m p o.name.name o.inputs o.outputs)
            whole = ap (nearest own) line

            by_own : (y : Option MethodId) → own a ≡ y → Risen
            by_own None is_own =
                let finds : process_method m p o.name.name o.inputs o.outputs ≡ Some (method_id k) = sym (whole ∙ ap (λ (y : Option MethodId). option_or y (process_method m p o.name.name o.inputs o.outputs)) is_own) ∙ large.finds in
                by_size finds (spread_up a p line depth k o there heavy)
            by_own (Some n) is_own =
                let same : Some n ≡ Some (method_id k) = sym (whole ∙ ap (λ (y : Option MethodId). option_or y (process_method m p o.name.name o.inputs o.outputs)) is_own) ∙ large.finds in
                record { class = a; here = declares a n is_own same; large = large }
