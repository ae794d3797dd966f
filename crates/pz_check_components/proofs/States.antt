-- What is known of a vertex after a write.
use Rattle.std.proofs.Common.{◌≡◌, ◌≢◌, refl, sym, ap, ◌∙◌, ℕ, zero, suc, ◌<◌, ◌≤◌, ◌⊎◌, inl, inr, List, [], ◌∷◌, length, get_or, Some, arith, get_or-set_same, get_or-set_other}
use Rattle.std.proofs.Math.ListN.{set, length-set}
use Rattle.std.proofs.lemmas.List.{get_or_past}
use Rattle.std.proofs.lemmas.Option.{unwrap_or-slice_get, slice_get-get_or, get_or_from_slice_get}
use Rattle.pz_check_components.specs.declared.walk.State.{State}
use Rattle.pz_check_components.specs.declared.walk.State.TheVariants.{Unseen, Open, Done}
use Rattle.pz_check_components.specs.devices.IsWalk.{At}
use Rattle.pz_check_components.specs.devices.Walking.{state_of, done_all}

pub same_number : (u v : ℕ) → (u ≡ v) ⊎ (u ≢ v)
same_number u v = grind arith

pub two_ways : (u v : ℕ) → (u < v) ⊎ (v ≤ u)
two_ways u v = grind arith

pub state_is : (ss : List State) (v : ℕ) → state_of ss v ≡ get_or ss v (Done 0)
state_is ss v = unwrap_or-slice_get ss v (Done 0)

pub set_same : (ss : List State) (v : ℕ) (s : State) → v < length ss → state_of (set ss v s) v ≡ s
set_same ss v s below = state_is (set ss v s) v ∙ get_or-set_same ss v s (Done 0) below

pub set_other : (ss : List State) (v u : ℕ) (s : State) → u ≢ v → state_of (set ss v s) u ≡ state_of ss u
set_other ss v u s other = state_is (set ss v s) u ∙ (get_or-set_other ss v u s (Done 0) other ∙ sym (state_is ss u))

pub at_state : (ss : List State) (v : ℕ) (s : State) → At ss v s → state_of ss v ≡ s
at_state ss v s at = state_is ss v ∙ get_or_from_slice_get ss v s (Done 0) at

pub is_at : (ss : List State) (v : ℕ) (s : State) → v < length ss → state_of ss v ≡ s → At ss v s
is_at ss v s below is = slice_get-get_or ss v (Done 0) below ∙ ap (λ (x : State). Some x) (sym (state_is ss v) ∙ is)

pub past : (ss : List State) (v : ℕ) → length ss ≤ v → state_of ss v ≡ Done 0
past ss v beyond = state_is ss v ∙ get_or_past ss v (Done 0) beyond

pub unseen_within : (ss : List State) (v : ℕ) → state_of ss v ≡ Unseen → v < length ss
unseen_within ss v is = by_way (two_ways v (length ss))
  where
    by_way : (v < length ss) ⊎ (length ss ≤ v) → v < length ss
    by_way (inl below) = below
    by_way (inr beyond) = let wrong : Done 0 ≡ Unseen = sym (past ss v beyond) ∙ is in cc

pub open_within : (ss : List State) (v i : ℕ) → state_of ss v ≡ Open i → v < length ss
open_within ss v i is = by_way (two_ways v (length ss))
  where
    by_way : (v < length ss) ⊎ (length ss ≤ v) → v < length ss
    by_way (inl below) = below
    by_way (inr beyond) = let wrong : Done 0 ≡ Open i = sym (past ss v beyond) ∙ is in cc

pub length-done_all : (ss : List State) (vs : List ℕ) (c : ℕ) → length (done_all ss vs c) ≡ length ss
length-done_all ss [] c = refl
length-done_all ss (v ∷ vs) c = length-done_all (set ss v (Done c)) vs c ∙ length-set ss v (Done c)

-- the others stay
pub done_other : (ss : List State) (vs : List ℕ) (c u : ℕ) → ((k : ℕ) → At vs k u → ⊥) → state_of (done_all ss vs c) u ≡ state_of ss u
done_other ss [] c u none = refl
done_other ss (v ∷ vs) c u none = done_other (set ss v (Done c)) vs c u (λ k at. none (suc k) at) ∙ set_other ss v u (Done c) (λ same. none 0 (ap (λ (x : ℕ). Some x) (sym same)))

stays_done : (ss : List State) (vs : List ℕ) (c u : ℕ) → u < length ss → state_of ss u ≡ Done c → state_of (done_all ss vs c) u ≡ Done c
stays_done ss [] c u below is = is
stays_done ss (v ∷ vs) c u below is = stays_done (set ss v (Done c)) vs c u (let size : length (set ss v (Done c)) ≡ length ss = length-set ss v (Done c) in omega arith) (by_vertex (same_number u v))
  where
    by_vertex : (u ≡ v) ⊎ (u ≢ v) → state_of (set ss v (Done c)) u ≡ Done c
    by_vertex (inl same) = rw (← same) (set_same ss u (Done c) below)
    by_vertex (inr other) = set_other ss v u (Done c) other ∙ is

-- these are done
pub done_same : (ss : List State) (vs : List ℕ) (c k u : ℕ) → u < length ss → At vs k u → state_of (done_all ss vs c) u ≡ Done c
done_same ss [] c k u below at = cc
done_same ss (v ∷ vs) c zero u below at =
    let same : v ≡ u = cc in
    stays_done (set ss v (Done c)) vs c u (let size : length (set ss v (Done c)) ≡ length ss = length-set ss v (Done c) in omega arith) (rw same (set_same ss u (Done c) below))
done_same ss (v ∷ vs) c (suc k) u below at = done_same (set ss v (Done c)) vs c k u (let size : length (set ss v (Done c)) ≡ length ss = length-set ss v (Done c) in omega arith) at
