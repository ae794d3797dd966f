-- What the code does in a step.
use Rattle.std.proofs.Common.{◌≡◌, ◌≢◌, refl, sym, ap, ◌∙◌, ℕ, zero, suc, ◌-◌, ◌<◌, ◌≤◌, Bool, true, false, nat_le, List, [], ◌∷◌, ◌++◌, length, get_or, slice_get, Option, Some, None, if◌then◌else◌, arith}
use Rattle.std.specs.Option.{IfSome, option_and_then, option_to_list}
use Rattle.std.proofs.lemmas.Bool.Decides.{nat_tests}
use Rattle.std.proofs.lemmas.Option.{slice_get-get_or, get_or_from_slice_get}
use Rattle.pz_check_components.specs.declared.walk.State.{State}
use Rattle.pz_check_components.specs.declared.walk.State.TheVariants.{Unseen, Open, Done}
use Rattle.pz_check_components.specs.declared.walk.Group.{Group}
use Rattle.pz_check_components.specs.devices.Walking.{Walked, state_of, last_of, followed_group, is_at_end, opened, closed}
use Rattle.pz_check_components.specs.devices.IsWalk.{At, IsWalk, IsOpenEnded, AreJoined, Advances}
use Rattle.pz_check_components.proofs.Places.{within}
use Rattle.pz_check_components.proofs.Passing.{back, to_component}
use Rattle.pz_check_components.proofs.Opening.{opens}
use Rattle.pz_check_components.proofs.Closing.{closes}

module _ (edges : List (List ℕ)) (w : Walked) where
  abbrev popped : List ℕ → Walked
  popped p = record { states = w.states; path = w.path; groups = w.groups; pending = p; found = w.found }

  module _ (seen : List State) (p : List ℕ) (v : ℕ) (seen_is : seen ≡ w.states) (here : w.pending ≡ p ++ v ∷ []) (walk : IsWalk edges w) (ended : IsOpenEnded w) where
    -- to what is not seen yet
    pub to_new : (new : Walked) → Unseen ≡ state_of seen v → new ≡ opened edges (popped p) v → Advances edges w new
    to_new new is result = rw result (opens edges w walk p v here ended (sym (is ∙ ap (λ (ss : List State). state_of ss v) seen_is)))

    -- back to a place of the path
    pub to_path : (j : ℕ) (gs : List Group) → Open j ≡ state_of seen v → AreJoined j w.groups gs → IfSome (last_of gs) (λ g. g.start ≤ j) → Advances edges w (record { states = w.states; path = w.path; groups = gs; pending = p; found = w.found })
    to_path j gs is joined low = back edges w walk p v here ended j (sym (is ∙ ap (λ (ss : List State). state_of ss v) seen_is)) gs joined all_low
      where
        all_low : (a : ℕ) (g : Group) → At gs a g → g.start ≤ j
        all_low a g at =
            let b : ℕ = length gs - 1 in
            let l : Group = get_or gs b g in
            let inside : a < length gs = within gs a g at in
            let there : At gs b l = slice_get-get_or gs b g (omega arith) in
            let lowest : l.start ≤ j = rw there at low in
            let before = (walk.groups.ordered a b g l (joined.from a g at) (joined.from b l there) (omega arith)).0 in
            omega arith

    -- to what is done
    pub to_done : (d : ℕ) → Done d ≡ state_of seen v → Advances edges w (popped p)
    to_done d is = to_component edges w walk p v here ended d (sym (is ∙ ap (λ (ss : List State). state_of ss v) seen_is))

  -- which group is followed
  pub record Followed (g : Group) : Type 0 where
    pub at : At w.groups (length w.groups - 1) g
    pub all : length w.pending ≤ g.pending

  pub is_followed : (g : Group) → Some g ≡ followed_group w → Followed g
  is_followed g is = by_last (last_of w.groups) refl (sym is)
    where
      by_test : (l : Group) (b : Bool) → last_of w.groups ≡ Some l → nat_le (length w.pending) l.pending ≡ b → (if nat_le (length w.pending) l.pending then Some l else None) ≡ Some g → Followed g
      by_test l true at test found =
          let same : Some l ≡ Some g = rw test at found in
          let equal : l ≡ g = cc in
          record { at = at ∙ same; all = rw (← equal) (grind (arith, nat_tests)) }
      by_test l false at test found = let wrong : None ≡ Some g = rw test at found in cc

      by_last : (o : Option Group) → last_of w.groups ≡ o → option_and_then (λ l. if nat_le (length w.pending) l.pending then Some l else None) (last_of w.groups) ≡ Some g → Followed g
      by_last None at found = let wrong : None ≡ Some g = rw at at found in cc
      by_last (Some l) at found = by_test l (nat_le (length w.pending) l.pending) at refl (rw at at found)

  pub to_closed : (gs : List Group) (g : Group) (o : Option Group) (n : ℕ) (new : Walked) → IsWalk edges w → Some g ≡ followed_group w → n ≡ length w.groups → w.groups ≡ gs ++ option_to_list o → ((d : Group) → 0 < n → o ≡ Some (get_or w.groups (n - 1) d))
      → new ≡ closed (record { states = w.states; path = w.path; groups = gs; pending = w.pending; found = w.found }) g → Advances edges w new
  to_closed gs g o n new walk is size items value result =
      let f : Followed g = is_followed g is in
      let inside : length w.groups - 1 < length w.groups = within w.groups (length w.groups - 1) g f.at in
      let last : o ≡ Some g = value g (omega arith) ∙ ap (λ (x : Group). Some x) (get_or_from_slice_get w.groups (n - 1) g g (rw size f.at)) in
      rw result (closes edges w walk gs g (rw last at items) f.all)

  -- where no group is, an edge is left
  pub open_ended : None ≡ followed_group w → is_at_end w ≡ false → IsOpenEnded w
  open_ended none goes = record { some = some; not_followed = sym none }
    where
      by_last : (o : Option Group) → last_of w.groups ≡ o → length w.pending ≡ 0 → ⊥
      by_last None at empty = by_length (length w.groups) refl
        where
          by_length : (n : ℕ) → length w.groups ≡ n → ⊥
          by_length zero no_group = let wrong : true ≡ false = rw (no_group, empty) at goes in cc
          by_length (suc n) some_group = let inside : length w.groups - 1 < length w.groups = omega arith in no_such w.groups (length w.groups - 1) inside at
            where
              no_such : (gs : List Group) (k : ℕ) → k < length gs → slice_get gs k ≡ None → ⊥
              no_such [] k inside at = omega arith
              no_such (g ∷ gs) zero inside at = cc
              no_such (g ∷ gs) (suc k) inside at = no_such gs k (omega arith) at
      by_last (Some l) at empty =
          let test : nat_le (length w.pending) l.pending ≡ true = grind (arith, nat_tests) in
          let followed : followed_group w ≡ Some l = rw (at, test) refl in
          let wrong : None ≡ Some l = none ∙ followed in
          cc

      some : length w.pending ≢ 0
      some empty = by_last (last_of w.groups) refl empty
