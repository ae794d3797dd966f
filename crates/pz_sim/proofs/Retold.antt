-- The processes that named the clock speak again, one after another.
use Rattle.std.proofs.Common.{◌≡◌, ◌≢◌, ◌≤◌, ◌<◌, ◌+◌, ◌⊎◌, inl, inr, ℕ, suc, Bool, true, false, not, List, [], ◌∷◌, set, length, Some, refl, sym, subst, ap, ◌∙◌, arith}
use Rattle.std.specs.Prelude.{slice_get, filter, All}
use Rattle.std.specs.Coded.{le_prop}
use Rattle.std.proofs.Math.Logic.{∥∥₁_elim, ∥∥₁_map₂}
use Rattle.std.proofs.lemmas.Bool.{cases_lt}
use Rattle.std.proofs.lemmas.Option.{same_Some, slice_get_within}
use Rattle.std.proofs.lemmas.List.{length-set, length-map}
use Rattle.pz_rules.specs.pz_syntax.Classes.{ModelTree}
use Rattle.pz_bind.specs.declared.net.Net.{Net}
use Rattle.pz_bind.specs.devices.Nets.{IsNet}
use Rattle.pz_match.specs.Pairs.{questions, touches}
use Rattle.pz_match.specs.Table.{Table}
use Rattle.pz_rules.specs.Terms.{done}
use Rattle.pz_sim_laws.specs.Members.{Member}
use Rattle.pz_tree.specs.declared.tree.Tree.{Tree}
use Rattle.pz_sim.specs.Costs.{with_end_in}
use Rattle.pz_sim.specs.Members.{member_of, members_of}
use Rattle.pz_sim.specs.devices.Passing.{IsYetToSpeak, AreRetold}
use Rattle.pz_sim.specs.devices.Speaking.{CanBeAsked}
use Rattle.pz_sim.specs.devices.Tables.{IsTable, IsHeard, AreHeard, AreHeardBut, CanTell}
use Rattle.pz_sim.proofs.Acted.{some_there}
use Rattle.pz_sim.proofs.Heard.{heard_but, same_or_apart, set_same, set_other}
use Rattle.pz_sim.proofs.Passed.{some_at}
use Rattle.pz_sim.proofs.Replaced.{from_mapped, all_at}
use Rattle.pz_sim.proofs.Untouched.{untouched, asks_more}

-- two lists with the same at each place
pub same_lists : {X : Type 0} (xs ys : List X) → length xs ≡ length ys → ((i : ℕ) (x y : X) → slice_get xs i ≡ Some x → slice_get ys i ≡ Some y → x ≡ y) → xs ≡ ys
same_lists [] [] same each = refl
same_lists [] (y ∷ ys) same each = cc
same_lists (x ∷ xs) [] same each = cc
same_lists (x ∷ xs) (y ∷ ys) same each =
    ap (λ z. z ∷ xs) (each 0 x y refl refl) ∙ ap (λ zs. y ∷ zs) (same_lists xs ys (omega (arith, same)) (λ i a b a_is b_is. each (suc i) a b a_is b_is))

module _ (m : ModelTree) (clock : ℕ) (us : List Tree) (asked : All (CanBeAsked m clock) us) (old : Table) (named : List ℕ) (n : ℕ) (retold : AreRetold m us old named n) where
  asked_at : (i : ℕ) (u : Tree) → slice_get us i ≡ Some u → CanBeAsked m clock u
  asked_at i u is = all_at (CanBeAsked m clock) us i u asked is

  heard : AreHeard m clock us retold.members
  heard i h is = by (retold.each i x.0 h x.1 is)
    where
      x : (u : Tree) × (slice_get us i ≡ Some u)
      x = some_at us retold.members i h (sym retold.all) is

      by : (h ≡ member_of m x.0) ⊎ IsYetToSpeak m x.0 h named n i → (h.term ≡ done) ⊎ IsHeard m clock us i h
      by (inl same) = let a = asked_at i x.0 x.1 in inr (record { tree = x.0; is = x.1; fresh = a.fresh; same_clock = a.same_clock; same = same })
      by (inr yet) = inl (ap (λ (y : Member). y.term) yet.silent)

  module _ (i : ℕ) (is_next : slice_get named n ≡ Some i) where
    -- the next process, before it speaks
    pub next_tree : (u : Tree) × (slice_get us i ≡ Some u)
    next_tree = some_there us i (retold.within n i is_next)

    silent : (h : Member) × (slice_get retold.members i ≡ Some h)
    silent = some_at retold.members us i next_tree.0 retold.all next_tree.1

    pub can_tell : CanTell m clock us old i
    can_tell =
        let a = asked_at i next_tree.0 next_tree.1 in
        record {
          members = retold.members;
          table = retold.is_table;
          heard = heard_but m clock us retold.members i heard;
          before = silent.0;
          is_before = silent.1;
          tree = next_tree.0;
          is = next_tree.1;
          fresh = a.fresh;
          same_clock = a.same_clock;
          fits = a.fits;
        }

    -- no pair has an end in it
    pub next_apart : All (λ p. touches i p ≡ false) old.pairs
    next_apart = untouched retold.members old retold.is_table i silent.0 silent.1 (retold.silent n i silent.0 (let it : n ≤ n = omega arith in it) is_next silent.1)

    -- and when it has spoken
    pub retold_more : (new : Table) → IsTable (set retold.members i (member_of m next_tree.0)) new → AreRetold m us new named (n + 1)
    retold_more new table = record {
      members = set retold.members i (member_of m next_tree.0);
      is_table = table;
      all = length-set retold.members i (member_of m next_tree.0) ∙ retold.all;
      each = each;
      within = retold.within;
      silent = silent_still;
      once = retold.once;
    }
      where
        silent_still : (k j : ℕ) (h : Member) → n + 1 ≤ k → slice_get named k ≡ Some j → slice_get (set retold.members i (member_of m next_tree.0)) j ≡ Some h → h.term ≡ done
        silent_still k j h behind is h_is =
            let apart : i ≢ j = λ e. let same : n ≡ k = retold.once n k j (is_next ∙ ap (λ (l : ℕ). Some l) e) is in omega (arith, same, behind) in
            retold.silent k j h (omega (arith, behind)) is (sym (set_other retold.members i j (member_of m next_tree.0) apart) ∙ h_is)

        each : (j : ℕ) (u : Tree) (h : Member) → slice_get us j ≡ Some u → slice_get (set retold.members i (member_of m next_tree.0)) j ≡ Some h → (h ≡ member_of m u) ⊎ IsYetToSpeak m u h named (n + 1) j
        each j u h u_is h_is = by (same_or_apart i j)
          where
            later : i ≢ j → (h ≡ member_of m u) ⊎ IsYetToSpeak m u h named n j → (h ≡ member_of m u) ⊎ IsYetToSpeak m u h named (n + 1) j
            later apart (inl same) = inl same
            later apart (inr yet) = inr (record {
              silent = yet.silent;
              number = yet.number;
              behind = by_number (cases_lt n yet.number);
              is = yet.is;
            })
              where
                by_number : (n < yet.number) ⊎ (yet.number ≤ n) → n + 1 ≤ yet.number
                by_number (inl more) = omega (arith, more)
                by_number (inr most) =
                    let behind = yet.behind in
                    let same : n ≡ yet.number = omega (arith, behind, most) in
                    absurd (apart (same_Some i j (sym is_next ∙ ap (slice_get named) same ∙ yet.is)))

            by : (i ≡ j) ⊎ (i ≢ j) → (h ≡ member_of m u) ⊎ IsYetToSpeak m u h named (n + 1) j
            by (inl same) =
                let is_new : h ≡ member_of m next_tree.0 = set_same retold.members i (member_of m next_tree.0) h (ap (slice_get (set retold.members i (member_of m next_tree.0))) same ∙ h_is) in
                let tree : next_tree.0 ≡ u = same_Some next_tree.0 u (sym next_tree.1 ∙ ap (slice_get us) same ∙ u_is) in
                inl (is_new ∙ ap (member_of m) tree)
            by (inr apart) = later apart (retold.each j u h u_is (sym (set_other retold.members i j (member_of m next_tree.0) apart) ∙ h_is))

  -- when all of them have spoken
  pub all_told : length named ≤ n → IsTable (members_of m us) old
  all_told long = subst (λ (hs : List Member). IsTable hs old) (same_lists retold.members (members_of m us) (retold.all ∙ sym (length-map us (member_of m))) each) retold.is_table
    where
      each : (i : ℕ) (h k : Member) → slice_get retold.members i ≡ Some h → slice_get (members_of m us) i ≡ Some k → h ≡ k
      each i h k h_is k_is = by (retold.each i x.0 h x.1 h_is)
        where
          x : (u : Tree) × (slice_get us i ≡ Some u) × (member_of m u ≡ k)
          x = from_mapped (member_of m) us i k k_is

          by : (h ≡ member_of m x.0) ⊎ IsYetToSpeak m x.0 h named n i → h ≡ k
          by (inl same) = same ∙ x.2
          by (inr yet) =
              let within = slice_get_within named yet.number i yet.is in
              let behind = yet.behind in
              absurd (omega (arith, within, behind, long))

-- The next process, where the trees are as they were

module _ (m : ModelTree) (clock : ℕ) (us vs : List Tree) (trees_are : vs ≡ us) (asked : ∥ All (CanBeAsked m clock) us ∥₁) (old : Table) (named : List ℕ) (n i : ℕ) (retold : ∥ AreRetold m us old named n ∥₁)
    (is_next : slice_get named n ≡ Some i) where
  pub may_tell : ∥ CanTell m clock vs old i ∥₁
  may_tell = subst (λ (xs : List Tree). ∥ CanTell m clock xs old i ∥₁) (sym trees_are) (∥∥₁_map₂ asked retold (λ a k. can_tell m clock us a old named n k i is_next))

  pub one_told : (net : Net) (new : Table) → ∥ IsNet m net ∥₁
      → (IsNet m net → (hs : List Member) (tree : Tree) → slice_get vs i ≡ Some tree → AreHeardBut m clock vs i hs → IsTable hs old → CanTell m clock vs old i → IsTable (set hs i (member_of m tree)) new)
      → ∥ AreRetold m us new named (n + 1) ∥₁
  one_told net new of_model falls = ∥∥₁_elim of_model squash₁ (λ net_is. ∥∥₁_map₂ asked retold (λ a k.
      let tree = next_tree m clock us a old named n k i is_next in
      let there : slice_get vs i ≡ Some tree.0 = ap (λ (xs : List Tree). slice_get xs i) trees_are ∙ tree.1 in
      let hears : AreHeardBut m clock vs i k.members = subst (λ (xs : List Tree). AreHeardBut m clock xs i k.members) (sym trees_are) (heard_but m clock us k.members i (heard m clock us a old named n k)) in
      let can : CanTell m clock vs old i = subst (λ (xs : List Tree). CanTell m clock xs old i) (sym trees_are) (can_tell m clock us a old named n k i is_next) in
      retold_more m clock us a old named n k i is_next new (falls net_is k.members tree.0 there hears k.is_table can)))

  -- it asks about pairs that it adds
  pub asks_next : (among : ℕ → Bool) → All (λ j. among j ≡ true) named → (new : Table) → filter (λ p. not (touches i p)) new.pairs ≡ filter (λ p. not (touches i p)) old.pairs
      → length (with_end_in among old.pairs) + length (questions i new.pairs) ≤ length (with_end_in among new.pairs)
  asks_next among all new same =
      ∥∥₁_elim asked le_prop (λ a. ∥∥₁_elim retold le_prop (λ k.
      asks_more among i (all_at (λ (j : ℕ). among j ≡ true) named n i all is_next) old.pairs new.pairs (next_apart m clock us a old named n k i is_next) same))

pub none_left : (m : ModelTree) (clock : ℕ) (us : List Tree) (old : Table) (named : List ℕ) (n : ℕ) → ∥ All (CanBeAsked m clock) us ∥₁ → ∥ AreRetold m us old named n ∥₁ → length named ≤ n → ∥ IsTable (members_of m us) old ∥₁
none_left m clock us old named n asked retold long = ∥∥₁_map₂ asked retold (λ a k. all_told m clock us a old named n k long)
