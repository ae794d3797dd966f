-- Frames that are closed, counted: those that are lost are exactly the open ones that do not stand.
use Rattle.std.proofs.Common.{◌≡◌, ◌≤◌, ◌<◌, ◌+◌, ℕ, suc, Bool, true, false, cond, not, eqb, ◌||◌, nat_eq, List, [], ◌∷◌, ◌++◌, map, length, get_or, refl, sym, ap, ◌∙◌, subst, arith}
use Rattle.std.specs.Prelude.{if◌then◌else◌}
use Rattle.std.proofs.Common.{eq-eqb}
use Rattle.std.proofs.lemmas.Bool.{ne_eqb, eqb-true}
use Rattle.std.specs.List.{list_any, filter, AllPairs}
use Rattle.pz_classes_code.specs.pz_value.declared.value.Value.{Value}
use Rattle.pz_rules.specs.pz_state.States.{StateView, Frames}
use Rattle.pz_rules.specs.pz_state.Marks.{Seen, changed}
use Rattle.pz_rules.specs.declared.limits.Edition.{Edition}
use Rattle.pz_rules.specs.declared.limits.Edition.TheVariants.{One, Two}
use Rattle.pz_rules.specs.Terms.{Term, frames_in}
use Rattle.pz_rules.specs.Leaving.{only_frames}
use Rattle.std.specs.List.Sorted.{IsPermutation}
use Rattle.std.proofs.lemmas.List.Elements.{filter_agree}
use Rattle.std.proofs.lemmas.List.Sorted.{list_any-IsPermutation}
use Rattle.pz_rules.specs.pz_state.declared.state.FrameId.{FrameId}
use Rattle.pz_tree_regrowing.specs.pz_tree_nodes.Dropping as dropping
use Rattle.pz_tree_acting.specs.devices.Closing.{HasListed, AlsoLists, OnlyListed, LostRule, ListedRule, StandBy, CloseRule}
use Rattle.pz_term_frames.specs.Closing.{without_frames}
use Rattle.pz_tree_regrowing.specs.pz_tree_standing.FrameCounts.{count_in, times}
use Rattle.pz_tree_regrowing.specs.pz_tree_standing.Frames.{numbers, open_as, FramesStand}

-- ------------------------------------------------------------ among numbers

one_counted : (b : Bool) (c : Bool) (k : ℕ) → (b || c) ≡ true → (c ≡ true → 1 ≤ k) → 1 ≤ (if b then 1 else 0) + k
one_counted true c k e h = omega arith
one_counted false c k e h = let g = h e in omega (arith, g)

no_counted : (b : Bool) (c : Bool) (k : ℕ) → (b || c) ≡ false → (c ≡ false → k ≡ 0) → (if b then 1 else 0) + k ≡ 0
no_counted true c k e h = absurd cc
no_counted false c k e h = let g = h e in omega (arith, g)

pub some_counted : (n : ℕ) (xs : List ℕ) → list_any (nat_eq n) xs ≡ true → 1 ≤ count_in n xs
some_counted n [] e = absurd cc
some_counted n (m ∷ ms) e = one_counted (nat_eq n m) (list_any (nat_eq n) ms) (count_in n ms) e (some_counted n ms)

pub none_counted : (n : ℕ) (xs : List ℕ) → list_any (nat_eq n) xs ≡ false → count_in n xs ≡ 0
none_counted n [] e = refl
none_counted n (m ∷ ms) e = no_counted (nat_eq n m) (list_any (nat_eq n) ms) (count_in n ms) e (none_counted n ms)

-- numbers in order are there once
after_none : (n x : ℕ) (xs : List ℕ) → n ≤ x → ((j d : ℕ) → j < length xs → x < get_or xs j d) → count_in n xs ≡ 0
after_none n x [] le h = refl
after_none n x (m ∷ ms) le h =
    let less : x < m = h 0 0 (omega arith) in
    let other : eqb n m ≡ false = ne_eqb n m (λ e. omega (arith, le, less, e)) in
    let further = after_none n x ms le (λ j d w. h (suc j) d (omega (arith, w))) in
    ap (λ (b : Bool). (if b then 1 else 0) + count_in n ms) other ∙ (let e : 0 + count_in n ms ≡ 0 = omega (arith, further) in e)

pub ordered_once : (n : ℕ) (xs : List ℕ) → AllPairs (λ m k. m < k) xs → count_in n xs ≤ 1
ordered_once n [] h = omega arith
ordered_once n (x ∷ xs) h =
    by (eqb n x) refl (ordered_once n xs (λ i j d p q. h (suc i) (suc j) d (omega (arith, p)) (omega (arith, q))))
  where
    by : (b : Bool) → eqb n x ≡ b → count_in n xs ≤ 1 → (if b then 1 else 0) + count_in n xs ≤ 1
    by true e further =
        let is : n ≡ x = eqb-true n x e in
        let none = after_none n x xs (omega (arith, is)) (λ j d w. h 0 (suc j) d (omega arith) (omega (arith, w))) in
        omega (arith, none)
    by false e further = omega (arith, further)

-- ------------------------------------------------------------ among open frames

abbrev open_numbers : Frames → List ℕ
open_numbers fs = map (λ f. f.0) fs

filter_same : (p q : ℕ → Bool) (fs : Frames) → ((n : ℕ) → 1 ≤ count_in n (open_numbers fs) → p n ≡ q n) → filter (λ f. p f.0) fs ≡ filter (λ f. q f.0) fs
filter_same p q [] h = refl
filter_same p q (f ∷ fs) h =
    let here : p f.0 ≡ q f.0 = h f.0 (here_once f.0 (open_numbers fs)) in
    let others = filter_same p q fs (λ n some. h n (further n f.0 (open_numbers fs) some)) in
    λ i. cond (here i) (f ∷ others i) (others i)
  where
    here_once : (n : ℕ) (xs : List ℕ) → 1 ≤ count_in n (n ∷ xs)
    here_once n xs = let e : eqb n n ≡ true = eq-eqb n n refl in rw e (omega arith)

    further : (n m : ℕ) (xs : List ℕ) → 1 ≤ count_in n xs → 1 ≤ count_in n (m ∷ xs)
    further n m xs some = omega (arith, some)

filter_all : (p : ℕ → Bool) (fs : Frames) → ((n : ℕ) → 1 ≤ count_in n (open_numbers fs) → p n ≡ true) → filter (λ f. p f.0) fs ≡ fs
filter_all p fs h = filter_same p (λ n. true) fs h ∙ every fs
  where
    every : (fs : Frames) → filter (λ (f : ℕ × List Value). true) fs ≡ fs
    every [] = refl
    every (f ∷ fs) = ap (λ l. f ∷ l) (every fs)

-- how many of a number are left
count_kept : (p : ℕ → Bool) (n : ℕ) (fs : Frames) → count_in n (open_numbers (filter (λ f. p f.0) fs)) ≡ (if p n then count_in n (open_numbers fs) else 0)
count_kept p n [] = by (p n)
  where
    by : (b : Bool) → ◌≡◌ {A = ℕ} 0 (if b then 0 else 0)
    by true = refl
    by false = refl
count_kept p n (f ∷ fs) = by (eqb n f.0) refl (p f.0) refl (p n) refl (count_kept p n fs)
  where
    by : (e : Bool) → eqb n f.0 ≡ e → (a : Bool) → p f.0 ≡ a → (b : Bool) → p n ≡ b
        → count_in n (open_numbers (filter (λ g. p g.0) fs)) ≡ (if b then count_in n (open_numbers fs) else 0)
        → count_in n (open_numbers (cond a (f ∷ filter (λ g. p g.0) fs) (filter (λ g. p g.0) fs))) ≡ (if b then (if eqb n f.0 then 1 else 0) + count_in n (open_numbers fs) else 0)
    by e same true here true there others = omega (arith, others)
    by e same false here false there others = others
    by true same true here false there others = absurd (let is : n ≡ f.0 = eqb-true n f.0 same in let k : p n ≡ p f.0 = ap p is in cc)
    by false same true here false there others = rw same (omega (arith, others))
    by true same false here true there others = absurd (let is : n ≡ f.0 = eqb-true n f.0 same in let k : p n ≡ p f.0 = ap p is in cc)
    by false same false here true there others = rw same (omega (arith, others))

-- ------------------------------------------------------------ what is lost and what stands

abbrev pub Once : StateView → Type 0
Once s = AllPairs (λ m n. m < n) (map (λ f. f.0) s.frames)

abbrev stands_in : Term → ℕ → Bool
stands_in t n = list_any (nat_eq n) (frames_in t)

-- the state without the frames that do not stand
still_stand : (t : Term) (s : StateView) → ((n : ℕ) → times n t ≤ open_as n s) → Once s → FramesStand t (only_frames (frames_in t) s)
still_stand t s few once n = by (stands_in t n) refl
  where
    by : (b : Bool) → stands_in t n ≡ b → times n t ≡ count_in n (open_numbers (filter (λ f. stands_in t f.0) s.frames))
    by true is =
        let one = some_counted n (frames_in t) is in
        let most = ordered_once n (open_numbers s.frames) once in
        let left = count_kept (stands_in t) n s.frames ∙ ap (λ (b : Bool). if b then count_in n (open_numbers s.frames) else 0) is in
        let here = few n in
        omega (arith, one, most, left, here)
    by false is = none_counted n (frames_in t) is ∙ sym (count_kept (stands_in t) n s.frames ∙ ap (λ (b : Bool). if b then count_in n (open_numbers s.frames) else 0) is)

-- where none is lost, all open ones stand
pub none_lost : (t : Term) (lost : List ℕ) (s : StateView) → lost ≡ [] → ((n : ℕ) → times n t + count_in n lost ≡ open_as n s) → (s ≡ only_frames (frames_in t) s) × FramesStand t s
none_lost t lost s none counts = (
  ap (λ (fs : Frames). let z : StateView = record s { frames = fs } in z) (sym (filter_all (stands_in t) s.frames (λ n some. all n some (stands_in t n) refl))),
  each,
)
  where
    each : (n : ℕ) → times n t ≡ open_as n s
    each n = let e = ap (count_in n) none in let c = counts n in omega (arith, e, c)

    all : (n : ℕ) → 1 ≤ count_in n (open_numbers s.frames) → (b : Bool) → stands_in t n ≡ b → stands_in t n ≡ true
    all n some true is = is
    all n some false is = absurd (let z = none_counted n (frames_in t) is in let c = each n in omega (arith, some, z, c))

pub others_lost : (t : Term) (lost gone : List ℕ) (s : StateView) → ((n : ℕ) → list_any (nat_eq n) gone ≡ list_any (nat_eq n) lost) → Once s → ((n : ℕ) → times n t + count_in n lost ≡ open_as n s)
    → (without_frames gone s ≡ only_frames (frames_in t) s) × FramesStand t (only_frames (frames_in t) s)
others_lost t lost gone s same once counts = (
  ap (λ (fs : Frames). let z : StateView = record s { frames = fs } in z)
      (filter_same (λ n. not (list_any (nat_eq n) gone)) (stands_in t) s.frames (λ n some. ap not (same n) ∙ agree n some (list_any (nat_eq n) lost) refl (stands_in t n) refl)),
  still_stand t s (λ n. let c = counts n in omega (arith, c)) once,
)
  where
    agree : (n : ℕ) → 1 ≤ count_in n (open_numbers s.frames) → (b : Bool) → list_any (nat_eq n) lost ≡ b → (d : Bool) → stands_in t n ≡ d → not (list_any (nat_eq n) lost) ≡ stands_in t n
    agree n some true is true stands =
        absurd (let p = some_counted n lost is in let q = some_counted n (frames_in t) stands in let c = counts n in let most = ordered_once n (open_numbers s.frames) once in omega (arith, p, q, c, most))
    agree n some true is false stands = ap not is ∙ sym stands
    agree n some false is true stands = ap not is ∙ sym stands
    agree n some false is false stands = absurd (let p = none_counted n lost is in let q = none_counted n (frames_in t) stands in let c = counts n in omega (arith, p, q, c, some))

-- ------------------------------------------------------------ what is closed

pub numbers_none : (fs : List FrameId) → eqb (length fs) 0 ≡ true → dropping.numbers fs ≡ []
numbers_none [] e = refl
numbers_none (f ∷ fs) e = absurd (let z : length (f ∷ fs) ≡ 0 = eqb-true (length (f ∷ fs)) 0 e in omega (arith, z))

pub empty_closed : (lost : List ℕ) (s : Seen) → lost ≡ [] → LostRule lost s s
empty_closed lost s none t counts =
    let p = none_lost t lost s.held none counts in
    record { state = ap (changed s) p.0; stand = p.1 }

pub those_closed : (lost gone : List ℕ) (s u : Seen) → IsPermutation lost gone → Once s.held → u ≡ changed s (without_frames gone s.held) → LostRule lost s u
those_closed lost gone s u perm once is t counts =
    let p = others_lost t lost gone s.held (λ n. sym (list_any-IsPermutation (nat_eq n) lost gone perm)) once counts in
    let state : u ≡ changed s (only_frames (frames_in t) s.held) = is ∙ ap (changed s) p.0 in
    record { state = state; stand = subst (λ (z : Seen). FramesStand t z.held) (sym state) p.1 }

-- the order of the numbers does not matter
pub same_frames : (xs ys : List ℕ) (s : StateView) → IsPermutation xs ys → only_frames ys s ≡ only_frames xs s
same_frames xs ys s permuted =
    ap (λ (fs : Frames). let t : StateView = record s { frames = fs } in t)
    (filter_agree (λ (f : ℕ × List Value). list_any (nat_eq f.0) ys) (λ (f : ℕ × List Value). list_any (nat_eq f.0) xs) (λ f. sym (list_any-IsPermutation (nat_eq f.0) xs ys permuted)) s.frames)

pub only_listed : (listed sorted : List ℕ) (s u : Seen) → IsPermutation listed sorted → u ≡ changed s (only_frames sorted s.held) → OnlyListed listed s u
only_listed listed sorted s u permuted is = is ∙ ap (changed s) (same_frames listed sorted s.held permuted)

-- of those that are listed, so many are open
left_listed : (listed : List ℕ) (s : StateView) (n : ℕ) → Once s → count_in n listed ≤ open_as n s → open_as n (only_frames listed s) ≡ count_in n listed
left_listed listed s n once few = by (list_any (nat_eq n) listed) refl
  where
    by : (b : Bool) → list_any (nat_eq n) listed ≡ b → open_as n (only_frames listed s) ≡ count_in n listed
    by true is =
        let one = some_counted n listed is in
        let most = ordered_once n (open_numbers s.frames) once in
        let left : open_as n (only_frames listed s) ≡ open_as n s = count_kept (λ k. list_any (nat_eq k) listed) n s.frames ∙ ap (λ (b : Bool). if b then count_in n (open_numbers s.frames) else 0) is in
        omega (arith, one, most, left, few)
    by false is = count_kept (λ k. list_any (nat_eq k) listed) n s.frames ∙ ap (λ (b : Bool). if b then count_in n (open_numbers s.frames) else 0) is ∙ sym (none_counted n listed is)

filter_within : (p q : ℕ → Bool) (fs : Frames) → ((n : ℕ) → p n ≡ true → q n ≡ true) → filter (λ f. p f.0) (filter (λ f. q f.0) fs) ≡ filter (λ f. p f.0) fs
filter_within p q [] h = refl
filter_within p q (f ∷ fs) h = by (p f.0) refl (q f.0) refl (filter_within p q fs h)
  where
    by : (a : Bool) → p f.0 ≡ a → (b : Bool) → q f.0 ≡ b → filter (λ g. p g.0) (filter (λ g. q g.0) fs) ≡ filter (λ g. p g.0) fs
        → filter (λ g. p g.0) (cond b (f ∷ filter (λ g. q g.0) fs) (filter (λ g. q g.0) fs)) ≡ cond a (f ∷ filter (λ g. p g.0) fs) (filter (λ g. p g.0) fs)
    by true here true there others = λ i. cond (here i) (f ∷ others i) (others i)
    by true here false there others = absurd (let is : q f.0 ≡ true = h f.0 here in cc)
    by false here true there others = λ i. cond (here i) (f ∷ others i) (others i)
    by false here false there others = others

-- what stands is listed
still_listed : (t : Term) (listed : List ℕ) (n : ℕ) → stands_in t n ≡ true → (b : Bool) → list_any (nat_eq n) listed ≡ b → times n t ≤ count_in n listed → b ≡ true
still_listed t listed n stands true is few = refl
still_listed t listed n stands false is few = absurd (let p = some_counted n (frames_in t) stands in let q = none_counted n listed is in omega (arith, p, q, few))

-- the others go first, and then the lost ones
pub both_closed : (listed lost : List ℕ) (s mid u : Seen) → OnlyListed listed s mid → Once s.held → LostRule lost mid u → ListedRule listed lost s u
both_closed listed lost s mid u only once rule t counts =
    let held : mid.held ≡ only_frames listed s.held = ap (λ (z : Seen). z.held) only in
    let closed = rule t (λ n. (counts n).0 ∙ sym (left_listed listed s.held n once (counts n).1) ∙ ap (open_as n) (sym held)) in
    let within : only_frames (frames_in t) (only_frames listed s.held) ≡ only_frames (frames_in t) s.held =
    ap (λ (fs : Frames). let z : StateView = record s.held { frames = fs } in z) (filter_within (stands_in t) (λ n. list_any (nat_eq n) listed) s.held.frames (λ n stands. still_listed t listed n stands (list_any (nat_eq n) listed) refl (few n))) in
    record {
      state = closed.state ∙ ap (λ (z : Seen). changed z (only_frames (frames_in t) z.held)) only ∙ ap (changed s) within;
      stand = closed.stand;
    }
  where
    few : (n : ℕ) → times n t ≤ count_in n listed
    few n = let c = (counts n).0 in omega (arith, c)

pub close_one : (e : Edition) → e ≡ One → (listed lost : List ℕ) (s u : Seen) → LostRule lost s u → CloseRule e listed lost s u
close_one e is listed lost s u rule t counts = rule t (λ n. subst (λ z. StandBy z (times n t) (count_in n lost) (count_in n listed) (open_as n s.held)) is (counts n))

pub close_two : (e : Edition) → e ≡ Two → (listed lost : List ℕ) (s u : Seen) → ListedRule listed lost s u → CloseRule e listed lost s u
close_two e is listed lost s u rule t counts = rule t (λ n. subst (λ z. StandBy z (times n t) (count_in n lost) (count_in n listed) (open_as n s.held)) is (counts n))

-- ------------------------------------------------------------ what is listed

pub one_has : (e : Edition) (s : StateView) (listed : List ℕ) → e ≡ One → HasListed e s listed
one_has e s listed is = subst (λ z. HasListed z s listed) (sym is) tt

pub two_has : (e : Edition) (s : StateView) (listed : List ℕ) → e ≡ Two → listed ≡ numbers s → HasListed e s listed
two_has e s listed is same = subst (λ z. HasListed z s listed) (sym is) same

pub one_also : (e : Edition) (t : Term) (before after : List ℕ) → e ≡ One → AlsoLists e t before after
one_also e t before after is = subst (λ z. AlsoLists z t before after) (sym is) tt

pub two_also : (e : Edition) (t : Term) (before after : List ℕ) → e ≡ Two → after ≡ before ++ frames_in t → AlsoLists e t before after
two_also e t before after is same = subst (λ z. AlsoLists z t before after) (sym is) same
