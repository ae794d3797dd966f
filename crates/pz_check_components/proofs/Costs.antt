-- What is left to be done.
use Rattle.std.proofs.Common.{◌≡◌, refl, ap, ◌∙◌, ℕ, zero, suc, ◌+◌, ◌≤◌, List, [], ◌∷◌, ◌++◌, length, arith}
use Rattle.std.proofs.Math.ListN.{set}
use Rattle.pz_check_components.specs.declared.walk.State.{State}
use Rattle.pz_check_components.specs.declared.walk.State.TheVariants.{Unseen, Open, Done}
use Rattle.pz_check_components.specs.Graph.{targets}
use Rattle.pz_check_components.specs.devices.Walking.{state_of, done_all, cost, to_open, unseen, one_unseen, count_unseen}

-- a vertex that is opened is left no more
pub to_open-opened : (edges : List (List ℕ)) (ss : List State) (v i : ℕ) → length ss ≡ length edges → state_of ss v ≡ Unseen → to_open edges (set ss v (Open i)) + (length (targets edges v) + 2) ≡ to_open edges ss
to_open-opened [] [] v i size is = cc
to_open-opened [] (s ∷ ss) v i size is = absurd (omega arith)
to_open-opened (e ∷ es) [] v i size is = absurd (omega arith)
to_open-opened (e ∷ es) (s ∷ ss) zero i size is =
    let first : cost e s ≡ length e + 2 = ap (cost e) is in
    omega arith
to_open-opened (e ∷ es) (s ∷ ss) (suc v) i size is =
    let rest : to_open es (set ss v (Open i)) + (length (targets es v) + 2) ≡ to_open es ss = to_open-opened es ss v i (omega arith) is in
    omega arith

one_done : (edges : List (List ℕ)) (ss : List State) (v c : ℕ) → to_open edges (set ss v (Done c)) ≤ to_open edges ss
one_done [] ss v c = omega arith
one_done (e ∷ es) [] v c = omega arith
one_done (e ∷ es) (s ∷ ss) zero c = omega arith
one_done (e ∷ es) (s ∷ ss) (suc v) c = let rest : to_open es (set ss v (Done c)) ≤ to_open es ss = one_done es ss v c in omega arith

-- what is done adds nothing
pub to_open-done_all : (edges : List (List ℕ)) (ss : List State) (vs : List ℕ) (c : ℕ) → to_open edges (done_all ss vs c) ≤ to_open edges ss
to_open-done_all edges ss [] c = omega arith
to_open-done_all edges ss (v ∷ vs) c =
    let first : to_open edges (set ss v (Done c)) ≤ to_open edges ss = one_done edges ss v c in
    let rest : to_open edges (done_all (set ss v (Done c)) vs c) ≤ to_open edges (set ss v (Done c)) = to_open-done_all edges (set ss v (Done c)) vs c in
    omega arith

-- at first all are unseen
one_more_unseen : (ss : List State) → count_unseen (ss ++ Unseen ∷ []) ≡ count_unseen ss + 1
one_more_unseen [] = refl
one_more_unseen (s ∷ ss) = let rest : count_unseen (ss ++ Unseen ∷ []) ≡ count_unseen ss + 1 = one_more_unseen ss in omega arith

pub count_unseen-all : (n : ℕ) → count_unseen (unseen n) ≡ n
count_unseen-all zero = refl
count_unseen-all (suc n) = let rest : count_unseen (unseen n) ≡ n = count_unseen-all n in one_more_unseen (unseen n) ∙ (omega arith)

-- one less, where a vertex is opened
pub count_unseen-opened : (ss : List State) (v i : ℕ) → state_of ss v ≡ Unseen → count_unseen (set ss v (Open i)) + 1 ≡ count_unseen ss
count_unseen-opened [] v i is = cc
count_unseen-opened (s ∷ ss) zero i is = let first : one_unseen s ≡ 1 = ap one_unseen is in omega arith
count_unseen-opened (s ∷ ss) (suc v) i is = let rest : count_unseen (set ss v (Open i)) + 1 ≡ count_unseen ss = count_unseen-opened ss v i is in omega arith

one_seen : (ss : List State) (v c : ℕ) → count_unseen (set ss v (Done c)) ≤ count_unseen ss
one_seen [] v c = omega arith
one_seen (s ∷ ss) zero c = omega arith
one_seen (s ∷ ss) (suc v) c = let rest : count_unseen (set ss v (Done c)) ≤ count_unseen ss = one_seen ss v c in omega arith

-- no more, where vertices are done
pub count_unseen-done_all : (ss : List State) (vs : List ℕ) (c : ℕ) → count_unseen (done_all ss vs c) ≤ count_unseen ss
count_unseen-done_all ss [] c = omega arith
count_unseen-done_all ss (v ∷ vs) c =
    let first : count_unseen (set ss v (Done c)) ≤ count_unseen ss = one_seen ss v c in
    let rest : count_unseen (done_all (set ss v (Done c)) vs c) ≤ count_unseen (set ss v (Done c)) = count_unseen-done_all (set ss v (Done c)) vs c in
    omega arith
