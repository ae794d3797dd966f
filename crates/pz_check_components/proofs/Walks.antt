-- What follows from what holds of a walk.
use Rattle.std.proofs.Common.{◌≡◌, refl, ap, ◌∙◌, ℕ, ◌+◌, ◌-◌, ◌<◌, ◌≤◌, Bool, true, false, nat_le, List, [], ◌∷◌, ◌++◌, length, get_or, Some, None, if◌then◌else◌, arith}
use Rattle.std.proofs.lemmas.Bool.Decides.{nat_tests}
use Rattle.std.proofs.lemmas.List.{length_push}
use Rattle.std.proofs.lemmas.Option.{slice_get-get_or}
use Rattle.pz_check_components.specs.declared.walk.State.TheVariants.{Open}
use Rattle.pz_check_components.specs.declared.walk.Group.{Group}
use Rattle.pz_check_components.specs.Graph.{Reaches, itself, further}
use Rattle.pz_check_components.specs.devices.Walking.{Walked, state_of, followed_group}
use Rattle.pz_check_components.specs.devices.IsWalk.{At, IsWalk, IsOpenEnded, HasSource}
use Rattle.pz_check_components.proofs.Places.{within, Pushed, pushed, in_first, at_last}

pub reaches_on : (edges : List (List ℕ)) (v u w : ℕ) → Reaches edges v u → Reaches edges u w → Reaches edges v w
reaches_on edges v u _ to itself = to
reaches_on edges v u _ to (further x w on edge) = further x w (reaches_on edges v u x to on) edge

-- the last of the groups, which is the greatest
pub record Last (groups : List Group) (l : Group) : Type 0 where
  pub at : At groups (length groups - 1) l
  pub most : (a : ℕ) (g : Group) → At groups a g → (g.start ≤ l.start) × (g.pending ≤ l.pending)

-- its edges are not all followed
pub unfollowed : (w : Walked) (l : Group) → At w.groups (length w.groups - 1) l → followed_group w ≡ None → l.pending < length w.pending
unfollowed w l at none = by_test (nat_le (length w.pending) l.pending) refl (rw at at none)
  where
    by_test : (b : Bool) → nat_le (length w.pending) l.pending ≡ b → (if nat_le (length w.pending) l.pending then Some l else None) ≡ None → l.pending < length w.pending
    by_test true is wrong = let impossible : Some l ≡ None = rw is at wrong in cc
    by_test false is _ = grind (arith, nat_tests)

module _ (edges : List (List ℕ)) (w : Walked) (walk : IsWalk edges w) where
  pub last_group : (a : ℕ) (g : Group) → At w.groups a g → (l : Group) × Last w.groups l
  last_group a g at =
      let b : ℕ = length w.groups - 1 in
      let some : a < length w.groups = within w.groups a g at in
      let there : At w.groups b (get_or w.groups b g) = slice_get-get_or w.groups b g (omega arith) in
      (get_or w.groups b g, record { at = there; most = λ c h here. (let inside : c < length w.groups = within w.groups c h here in walk.groups.ordered c b h (get_or w.groups b g) here there (omega arith)) })

  module _ (p : List ℕ) (v : ℕ) (here : w.pending ≡ p ++ v ∷ []) (ended : IsOpenEnded w) where
    pub size : length w.pending ≡ length p + 1
    size = ap (λ (x : List ℕ). length x) here ∙ length_push p v

    pub next_at : At w.pending (length p) v
    next_at = rw here (at_last p v)

    pub earlier : (k u : ℕ) → At p k u → At w.pending k u
    earlier k u at = rw here (in_first p (v ∷ []) k u at)

    pub waits : (k u : ℕ) → At w.pending k u → Pushed p v k u
    waits k u at = pushed p v k u (rw here at at)

    pub room : (a : ℕ) (g : Group) → At w.groups a g → g.pending ≤ length p
    room a g at = by_last (last_group a g at)
      where
        by_last : (l : Group) × Last w.groups l → g.pending ≤ length p
        by_last (l, last) =
            let least : l.pending < length w.pending = unfollowed w l last.at ended.not_followed in
            let most : (g.start ≤ l.start) × (g.pending ≤ l.pending) = last.most a g at in
            omega (arith, size, most.1)

    -- what is open leads to where the next edge does
    pub reaches_next : (i x : ℕ) → state_of w.states x ≡ Open i → Reaches edges x v
    reaches_next i x stands = by_group (walk.path.grouped i x stands)
      where
        by_source : (l : Group) → Last w.groups l → HasSource edges w (length p) v l → Reaches edges x v
        by_source l last s = further s.from v (walk.leads i s.place x s.from stands s.stands (record { no_start = λ b h at _. (let most : (h.start ≤ l.start) × (h.pending ≤ l.pending) = last.most b h at in let later : l.start ≤ s.place = s.later in omega (arith, most.0)) })) s.leads

        by_last : (l : Group) × Last w.groups l → Reaches edges x v
        by_last (l, last) = by_source l last (walk.source (length p) v (length w.groups - 1) l next_at last.at (room (length w.groups - 1) l last.at))

        by_group : (a : ℕ) × (g : Group) × At w.groups a g × (g.start ≤ i) → Reaches edges x v
        by_group (a, g, at, low) = by_last (last_group a g at)
