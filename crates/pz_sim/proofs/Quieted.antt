-- The processes that name the clock fall silent, one after another.
use Rattle.std.proofs.Common.{◌≡◌, ◌≤◌, ◌<◌, ◌+◌, ◌⊎◌, inl, inr, ℕ, zero, suc, Bool, true, false, List, [], ◌∷◌, ◌++◌, set, get_or, length, Some, refl, sym, subst, ap, ◌∙◌, arith}
use Rattle.std.specs.Prelude.{slice_get, All}
use Rattle.std.proofs.Math.Logic.{∥∥₁_elim, ∥∥₁_map}
use Rattle.std.proofs.Math.Nat.{ℕ_set}
use Rattle.std.proofs.lemmas.Bool.{cases_lt, true≢false}
use Rattle.std.proofs.lemmas.Option.{same_Some, slice_get-get_or}
use Rattle.pz_rules.specs.pz_syntax.Classes.{ModelTree}
use Rattle.pz_match.specs.Pairs.{questions}
use Rattle.pz_match.specs.Table.{Table}
use Rattle.pz_rules.specs.Terms.{done}
use Rattle.pz_sim_laws.specs.Members.{Member}
use Rattle.pz_tree.specs.declared.tree.Tree.{Tree}
use Rattle.pz_tree.specs.Trees.{IsFresh}
use Rattle.pz_sim.specs.Costs.{names}
use Rattle.pz_sim.specs.Members.{member_of, members_of}
use Rattle.pz_sim.specs.devices.Passing.{quiet_if, quieted, IsAmong, StandOnce, AreSilenced}
use Rattle.pz_sim.specs.devices.Tables.{hushed, IsTable, IsHeard, AreHeard, CanBeSilent}
use Rattle.pz_sim.proofs.Replaced.{all_at, got_set}
use Rattle.pz_sim.proofs.Untouched.{asks_nothing}

module _ (m : ModelTree) where
  pub none_quiet : (ts : List Tree) → quieted m 0 ts ≡ members_of m ts
  none_quiet [] = refl
  none_quiet (t ∷ ts) = ap (λ (hs : List Member). member_of m t ∷ hs) (none_quiet ts)

  pub length-quieted : (n : ℕ) (ts : List Tree) → length (quieted m n ts) ≡ length ts
  length-quieted n [] = refl
  length-quieted zero (t ∷ ts) = ap suc (length-quieted zero ts)
  length-quieted (suc n) (t ∷ ts) = ap suc (length-quieted n ts)

  -- the next one speaks so far
  pub quiet_next : (n : ℕ) (ts : List Tree) (t : Tree) → slice_get ts n ≡ Some t → slice_get (quieted m n ts) n ≡ Some (member_of m t)
  quiet_next n [] t is = cc
  quiet_next zero (x ∷ ts) t is = ap (λ (y : Tree). Some (member_of m y)) (same_Some x t is)
  quiet_next (suc n) (x ∷ ts) t is = quiet_next n ts t is

  -- if it names the clock it is silent then
  pub quiet_more : (n : ℕ) (ts : List Tree) (t : Tree) → slice_get ts n ≡ Some t → names m t ≡ true → quieted m (suc n) ts ≡ set (quieted m n ts) n (hushed (member_of m t))
  quiet_more n [] t is e = cc
  quiet_more zero (x ∷ ts) t is e =
      let same : x ≡ t = same_Some x t is in
      ap (λ (b : Bool). quiet_if b (member_of m x) ∷ quieted m 0 ts) (ap (names m) same ∙ e) ∙ ap (λ (y : Tree). hushed (member_of m y) ∷ quieted m 0 ts) same
  quiet_more (suc n) (x ∷ ts) t is e = ap (λ (hs : List Member). quiet_if (names m x) (member_of m x) ∷ hs) (quiet_more n ts t is e)

  -- if not it speaks on
  pub quiet_same : (n : ℕ) (ts : List Tree) (t : Tree) → slice_get ts n ≡ Some t → names m t ≡ false → quieted m (suc n) ts ≡ quieted m n ts
  quiet_same n [] t is e = cc
  quiet_same zero (x ∷ ts) t is e = ap (λ (b : Bool). quiet_if b (member_of m x) ∷ quieted m 0 ts) (ap (names m) (same_Some x t is) ∙ e)
  quiet_same (suc n) (x ∷ ts) t is e = ap (λ (hs : List Member). quiet_if (names m x) (member_of m x) ∷ hs) (quiet_same n ts t is e)

  -- each is that of its tree, or silent
  pub record IsQuiet (ts : List Tree) (i : ℕ) (h : Member) : Type 0 where
    pub tree : Tree
    pub is : slice_get ts i ≡ Some tree
    pub same : (h ≡ member_of m tree) ⊎ (h.term ≡ done)

  quiet_is : (n : ℕ) (ts : List Tree) (i : ℕ) (h : Member) → slice_get (quieted m n ts) i ≡ Some h → IsQuiet ts i h
  quiet_is n [] i h is = cc
  quiet_is zero (t ∷ ts) zero h is = record { tree = t; is = refl; same = inl (sym (same_Some (member_of m t) h is)) }
  quiet_is zero (t ∷ ts) (suc i) h is = let x = quiet_is zero ts i h is in record { tree = x.tree; is = x.is; same = x.same }
  quiet_is (suc n) (t ∷ ts) zero h is = record { tree = t; is = refl; same = by (names m t) (same_Some (quiet_if (names m t) (member_of m t)) h is) }
    where
      by : (b : Bool) → quiet_if b (member_of m t) ≡ h → (h ≡ member_of m t) ⊎ (h.term ≡ done)
      by true e = inr (ap (λ (x : Member). x.term) (sym e))
      by false e = inl (sym e)
  quiet_is (suc n) (t ∷ ts) (suc i) h is = let x = quiet_is n ts i h is in record { tree = x.tree; is = x.is; same = x.same }

  pub quiet_heard : (clock n : ℕ) (ts : List Tree) → All (IsFresh m) ts → All (λ t. t.clock ≡ clock) ts → AreHeard m clock ts (quieted m n ts)
  quiet_heard clock n ts fresh clocks i h is = by (x.same)
    where
      x : IsQuiet ts i h
      x = quiet_is n ts i h is

      by : (h ≡ member_of m x.tree) ⊎ (h.term ≡ done) → (h.term ≡ done) ⊎ IsHeard m clock ts i h
      by (inl same) = inr (record { tree = x.tree; is = x.is; fresh = all_at (IsFresh m) ts i x.tree fresh x.is; same_clock = all_at (λ (t : Tree). t.clock ≡ clock) ts i x.tree clocks x.is; same = same })
      by (inr silent) = inl silent

-- numbers, one more behind
got_before : {X : Type 0} (xs ys : List X) (k : ℕ) (x : X) → slice_get xs k ≡ Some x → slice_get (xs ++ ys) k ≡ Some x
got_before [] ys k x is = cc
got_before (z ∷ xs) ys zero x is = is
got_before (z ∷ xs) ys (suc k) x is = got_before xs ys k x is

got_last : {X : Type 0} (xs : List X) (x : X) → slice_get (xs ++ (x ∷ [])) (length xs) ≡ Some x
got_last [] x = refl
got_last (z ∷ xs) x = got_last xs x

from_longer : {X : Type 0} (xs : List X) (x y : X) (k : ℕ) → slice_get (xs ++ (x ∷ [])) k ≡ Some y → (slice_get xs k ≡ Some y) ⊎ ((x ≡ y) × (k ≡ length xs))
from_longer [] x y zero is = inr (same_Some x y is, refl)
from_longer [] x y (suc k) is = cc
from_longer (z ∷ xs) x y zero is = inl is
from_longer (z ∷ xs) x y (suc k) is = by (from_longer xs x y k is)
  where
    by : (slice_get xs k ≡ Some y) ⊎ ((x ≡ y) × (k ≡ length xs)) → (slice_get xs k ≡ Some y) ⊎ ((x ≡ y) × (suc k ≡ length (z ∷ xs)))
    by (inl before) = inl before
    by (inr last) = inr (last.0, ap suc last.1)

module _ (m : ModelTree) (clock n : ℕ) (ts : List Tree) (old : Table) (named : List ℕ) (within : n < length ts) where
  more : suc n ≡ n + 1
  more = omega arith

  pub can_be_silent : AreSilenced m clock n ts old named → CanBeSilent n old
  can_be_silent k =
      let rows = k.is_table.senders.all in
      let many = length-quieted m n ts in
      record { there = k.is_table.there; within = omega (arith, within, rows, many) }

  module _ (t : Tree) (is : slice_get ts n ≡ Some t) where
    -- the next one does not name the clock
    pub silenced_same : names m t ≡ false → AreSilenced m clock n ts old named → AreSilenced m clock (n + 1) ts old named
    silenced_same e k = record {
      fresh = k.fresh;
      clocks = k.clocks;
      is_table = subst (λ (j : ℕ). IsTable (quieted m j ts) old) more (subst (λ (hs : List Member). IsTable hs old) (sym (quiet_same m n ts t is e)) k.is_table);
      are_named = record {
        every = every;
        within = λ j i there. let before = k.are_named.within j i there in omega (arith, before);
        only = k.are_named.only;
        once = k.are_named.once;
      };
    }
      where
        every : (i : ℕ) (u : Tree) → i < n + 1 → slice_get ts i ≡ Some u → names m u ≡ true → IsAmong named i
        every i u below there so = by (cases_lt i n)
          where
            by : (i < n) ⊎ (n ≤ i) → IsAmong named i
            by (inl earlier) = k.are_named.every i u earlier there so
            by (inr other) =
                let same : n ≡ i = omega (arith, below, other) in
                let tree : t ≡ u = same_Some t u (sym is ∙ ap (slice_get ts) same ∙ there) in
                absurd (true≢false (sym so ∙ ap (names m) (sym tree) ∙ e))

    -- or it does
    pub silenced_more : (new : Table) → AreSilenced m clock n ts old named → IsTable (set (quieted m n ts) n (hushed (member_of m t))) new → names m t ≡ true
        → AreSilenced m clock (n + 1) ts new (named ++ (n ∷ []))
    silenced_more new k table e = record {
      fresh = k.fresh;
      clocks = k.clocks;
      is_table = subst (λ (j : ℕ). IsTable (quieted m j ts) new) more (subst (λ (hs : List Member). IsTable hs new) (sym (quiet_more m n ts t is e)) table);
      are_named = record { every = every; within = inside; only = only; once = once };
    }
      where
        every : (i : ℕ) (u : Tree) → i < n + 1 → slice_get ts i ≡ Some u → names m u ≡ true → IsAmong (named ++ (n ∷ [])) i
        every i u below there so = by (cases_lt i n)
          where
            by : (i < n) ⊎ (n ≤ i) → IsAmong (named ++ (n ∷ [])) i
            by (inl earlier) = let x = k.are_named.every i u earlier there so in (x.0, got_before named (n ∷ []) x.0 i x.1)
            by (inr other) = let same : n ≡ i = omega (arith, below, other) in (length named, got_last named n ∙ ap (λ (j : ℕ). Some j) same)

        inside : (j i : ℕ) → slice_get (named ++ (n ∷ [])) j ≡ Some i → i < n + 1
        inside j i there = by (from_longer named n i j there)
          where
            by : (slice_get named j ≡ Some i) ⊎ ((n ≡ i) × (j ≡ length named)) → i < n + 1
            by (inl before) = let less = k.are_named.within j i before in omega (arith, less)
            by (inr last) = let same = last.0 in omega (arith, same)

        only : (j i : ℕ) (u : Tree) → slice_get (named ++ (n ∷ [])) j ≡ Some i → slice_get ts i ≡ Some u → names m u ≡ true
        only j i u there u_is = by (from_longer named n i j there)
          where
            by : (slice_get named j ≡ Some i) ⊎ ((n ≡ i) × (j ≡ length named)) → names m u ≡ true
            by (inl before) = k.are_named.only j i u before u_is
            by (inr last) = ap (names m) (sym (same_Some t u (sym is ∙ ap (slice_get ts) last.0 ∙ u_is))) ∙ e

        once : StandOnce (named ++ (n ∷ []))
        once j l i there_j there_l = by (from_longer named n i j there_j) (from_longer named n i l there_l)
          where
            by : (slice_get named j ≡ Some i) ⊎ ((n ≡ i) × (j ≡ length named)) → (slice_get named l ≡ Some i) ⊎ ((n ≡ i) × (l ≡ length named)) → j ≡ l
            by (inl before) (inl other) = k.are_named.once j l i before other
            by (inl before) (inr last) = let less = k.are_named.within j i before in let same = last.0 in absurd (omega (arith, less, same))
            by (inr last) (inl before) = let less = k.are_named.within l i before in let same = last.0 in absurd (omega (arith, less, same))
            by (inr last) (inr other) = last.1 ∙ sym other.1

-- The next tree, as it is read

module _ (m : ModelTree) (clock n : ℕ) (ts : List Tree) (old : Table) (named : List ℕ) (within : n < length ts) (silenced : ∥ AreSilenced m clock n ts old named ∥₁) where
  pub silent_so : ∥ CanBeSilent n old ∥₁
  silent_so = ∥∥₁_map silenced (can_be_silent m clock n ts old named within)

  module _ (d : Tree) where
    abbrev pub next : Tree
    next = get_or ts n d

    is_next : slice_get ts n ≡ Some next
    is_next = slice_get-get_or ts n d within

    next_is_fresh : AreSilenced m clock n ts old named → IsFresh m next
    next_is_fresh k = all_at (IsFresh m) ts n next k.fresh is_next

    pub next_fresh : ∥ ((model : ModelTree) × IsFresh model next) ∥₁
    next_fresh = ∥∥₁_map silenced (λ k. (m, next_is_fresh k))

    -- by what it answers
    module _ (answer : Bool) (says : (model : ModelTree) → IsFresh model next → answer ≡ names model next) where
      pub passed_over : answer ≡ false → ∥ AreSilenced m clock (n + 1) ts old named ∥₁
      passed_over e = ∥∥₁_map silenced (λ k. silenced_same m clock n ts old named within next is_next (sym (says m (next_is_fresh k)) ∙ e) k)

      -- none was asked a question meanwhile
      pub silent_free : answer ≡ true → (new : Table) → ((hs : List Member) (h : Member) → slice_get hs n ≡ Some h → AreHeard m clock ts hs → IsTable hs old → IsTable (set hs n (hushed h)) new) → length (questions n new.pairs) ≡ 0
      silent_free e new falls = ∥∥₁_elim silenced (ℕ_set (length (questions n new.pairs)) 0) (λ k.
          let h = member_of m next in
          let many = length-quieted m n ts in
          asks_nothing (set (quieted m n ts) n (hushed h)) new
          (falls (quieted m n ts) h (quiet_next m n ts next is_next) (quiet_heard m clock n ts k.fresh k.clocks) k.is_table)
          n (hushed h) (got_set (quieted m n ts) n (hushed h) (omega (arith, within, many))) refl)

      pub silent_now : answer ≡ true → (new : Table) → ((hs : List Member) (h : Member) → slice_get hs n ≡ Some h → AreHeard m clock ts hs → IsTable hs old → IsTable (set hs n (hushed h)) new)
          → ∥ AreSilenced m clock (n + 1) ts new (named ++ (n ∷ [])) ∥₁
      silent_now e new falls = ∥∥₁_map silenced (λ k.
          silenced_more m clock n ts old named within next is_next new k
          (falls (quieted m n ts) (member_of m next) (quiet_next m n ts next is_next) (quiet_heard m clock n ts k.fresh k.clocks) k.is_table) (sym (says m (next_is_fresh k)) ∙ e))
