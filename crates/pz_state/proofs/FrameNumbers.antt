-- The numbers of the open frames, in increasing order.
use Rattle.std.proofs.Common.{◌≡◌, ◌<◌, ◌≤◌, ◌+◌, ℕ, suc, List, [], ◌∷◌, ◌++◌, map, take, length, get_or, true, false, Option, Some, None, is_some, Vec, refl, sym, ap, ◌∙◌, subst, append-nil, arith}
use Rattle.std.specs.declared.alloc.Global.{Global}
use Rattle.std.specs.List.{All, AllPairs}
use Rattle.std.proofs.lemmas.List.{take_more, length-take-le}
use Rattle.std.proofs.lemmas.List.Elements.{All-nil, All-cons}
use Rattle.std.proofs.lemmas.List.Kept.{AllPairs-cons}
use Rattle.std.proofs.lemmas.Bool.{true≢false}
use Rattle.pz_value.specs.declared.value.Value.{Value}
use Rattle.pz_state.specs.declared.state.FrameId.{FrameId}
use Rattle.pz_state.specs.States.{Frames}
use Rattle.pz_state.specs.devices.FrameTables.{Table, StoredFrames, frames_from, stored}

abbrev pub numbers : Frames → List ℕ
numbers fs = map (λ f. f.0) fs

from_on : (n : ℕ) (table : Table) → All (λ k. n ≤ k) (numbers (frames_from n table))
from_on n [] = All-nil (λ k. n ≤ k)
from_on n (None ∷ rest) = λ i d within. let later : suc n ≤ get_or (numbers (frames_from (suc n) rest)) i d = from_on (suc n) rest i d within in omega (arith, later)
from_on n (Some values ∷ rest) =
    All-cons (λ k. n ≤ k) n (numbers (frames_from (suc n) rest)) (omega arith)
    (λ i d within. let later : suc n ≤ get_or (numbers (frames_from (suc n) rest)) i d = from_on (suc n) rest i d within in omega (arith, later))

ordered_from : (n : ℕ) (table : Table) → AllPairs (λ j k. j < k) (numbers (frames_from n table))
ordered_from n [] = λ i j d before within. absurd (omega (arith, within))
ordered_from n (None ∷ rest) = ordered_from (suc n) rest
ordered_from n (Some values ∷ rest) =
    AllPairs-cons (λ j k. j < k) n (numbers (frames_from (suc n) rest))
    (λ i d within. let later : suc n ≤ get_or (numbers (frames_from (suc n) rest)) i d = from_on (suc n) rest i d within in omega (arith, later))
    (ordered_from (suc n) rest)

pub ordered : {seen : StoredFrames} (table : Table) → stored table ≡ seen → AllPairs (λ j k. j < k) (numbers seen.frames)
ordered {seen} table v = subst (λ (s : StoredFrames). AllPairs (λ j k. j < k) (numbers s.frames)) v (ordered_from 1 table)

push : (n : ℕ) (table : Table) (x : Option (Vec Value Global)) → numbers (frames_from n (table ++ x ∷ [])) ≡ numbers (frames_from n table) ++ numbers (frames_from (n + length table) (x ∷ []))
push n [] x = let k : n ≡ n + 0 = omega arith in ap (λ (m : ℕ). numbers (frames_from m (x ∷ []))) k
push n (None ∷ rest) x =
    let k : suc n + length rest ≡ n + suc (length rest) = omega arith in
    push (suc n) rest x ∙ ap (λ (m : ℕ). numbers (frames_from (suc n) rest) ++ numbers (frames_from m (x ∷ []))) k
push n (Some values ∷ rest) x =
    let k : suc n + length rest ≡ n + suc (length rest) = omega arith in
    ap (λ (ns : List ℕ). n ∷ ns) (push (suc n) rest x ∙ ap (λ (m : ℕ). numbers (frames_from (suc n) rest) ++ numbers (frames_from m (x ∷ []))) k)

-- one place further
more : (table : Table) (i : ℕ) (x : Option (Vec Value Global)) → i < length table → x ≡ get_or table i x
    → numbers (frames_from 1 (take (i + 1) table)) ≡ numbers (frames_from 1 (take i table)) ++ numbers (frames_from (i + 1) (x ∷ []))
more table i x within is =
    let count : 1 + length (take i table) ≡ i + 1 = let e = length-take-le i table (omega (arith, within)) in omega (arith, e) in
    ap (λ (t : Table). numbers (frames_from 1 t)) (take_more table i x within ∙ ap (λ (y : Option (Vec Value Global)). take i table ++ y ∷ []) (sym is))
    ∙ push 1 (take i table) x
    ∙ ap (λ (m : ℕ). numbers (frames_from 1 (take i table)) ++ numbers (frames_from m (x ∷ []))) count

map-push : (xs : List FrameId) (x : FrameId) → map (λ n. n.0) (xs ++ x ∷ []) ≡ map (λ n. n.0) xs ++ x.0 ∷ []
map-push [] x = refl
map-push (y ∷ xs) x = ap (λ (ns : List ℕ). y.0 ∷ ns) (map-push xs x)

pub open_here : (table : Table) (i : ℕ) (x : Option (Vec Value Global)) (old new : List FrameId) → i < length table → x ≡ get_or table i x → is_some x ≡ true
    → new ≡ old ++ record { 0 = i + 1 } ∷ [] → map (λ n. n.0) old ≡ numbers (frames_from 1 (take i table)) → map (λ n. n.0) new ≡ numbers (frames_from 1 (take (i + 1) table))
open_here table i None old new within is some grown so_far = absurd (true≢false (sym some))
open_here table i (Some values) old new within is some grown so_far =
    ap (λ (ns : List FrameId). map (λ n. n.0) ns) grown ∙ map-push old (record { 0 = i + 1 })
    ∙ ap (λ (ns : List ℕ). ns ++ (i + 1) ∷ []) so_far
    ∙ sym (more table i (Some values) within is)

pub none_here : (table : Table) (i : ℕ) (x : Option (Vec Value Global)) (old new : List FrameId) → i < length table → x ≡ get_or table i x → is_some x ≡ false
    → new ≡ old → map (λ n. n.0) old ≡ numbers (frames_from 1 (take i table)) → map (λ n. n.0) new ≡ numbers (frames_from 1 (take (i + 1) table))
none_here table i (Some values) old new within is none same so_far = absurd (true≢false none)
none_here table i None old new within is none same so_far =
    ap (λ (ns : List FrameId). map (λ n. n.0) ns) same ∙ so_far ∙ sym (append-nil _) ∙ sym (more table i None within is)
