-- Trees of which each is asked what its process offers, one after the other.
use Rattle.std.proofs.Common.{◌≡◌, ◌<◌, ◌+◌, ◌∙◌, ◌⊎◌, inl, inr, ℕ, zero, suc, false, List, [], ◌∷◌, length, map, set, get_or, replicate, Some, refl, sym, ap, subst, arith}
use Rattle.std.specs.Prelude.{slice_get, All, Contains}
use Rattle.std.proofs.Math.Logic.{∥∥₁_elim, ∥∥₁_map}
use Rattle.std.proofs.Math.Nat.{ℕ_set}
use Rattle.std.proofs.Math.Bool.{Bool-set}
use Rattle.std.proofs.lemmas.List.{length-map}
use Rattle.std.proofs.lemmas.Option.{same_Some, slice_get_within, slice_get-get_or}
use Rattle.pz_rules.specs.pz_syntax.Classes.{ModelTree}
use Rattle.pz_rules.specs.pz_bind_rules.Nest.{processes, class_at}
use Rattle.pz_bind.specs.devices.Nets.{IsNet}
use Rattle.pz_bind.specs.declared.net.Net.{Net}
use Rattle.pz_match.specs.declared.offers.Sender.{Sender}
use Rattle.pz_match.specs.declared.offers.Receiver.{Receiver}
use Rattle.pz_match.specs.Pairs.{Judged, ArePairs}
use Rattle.pz_match.specs.Table.{Table}
use Rattle.pz_rules.specs.Terms.{done}
use Rattle.pz_rules.specs.Settings.{Setting, Context}
use Rattle.pz_rules.specs.Fitting.{TermFits}
use Rattle.pz_rules.specs.declared.moment.Moment.{Moment}
use Rattle.pz_sim_totals.specs.declared.total.Total.{Total}
use Rattle.pz_sim_totals.specs.Sums as sums
use Rattle.pz_sim_laws.specs.Members.{Member, process_of}
use Rattle.pz_sim_laws.specs.Offering.{SendersOf, ReceiversOf, in_all}
use Rattle.pz_sim_laws.specs.Deciding.{total_of, decided}
use Rattle.pz_tree.specs.declared.tree.Tree.{Tree}
use Rattle.pz_tree.specs.Trees.{term_in, IsFresh}
use Rattle.pz_sim.specs.Members.{member_of, members_of}
use Rattle.pz_sim.specs.devices.Holding.{AreTrees, AreKept}
use Rattle.pz_sim.specs.devices.Speaking.{CanBeAsked}
use Rattle.pz_sim.specs.devices.Tables.{IsTable, AreHeard, AreHeardBut, IsHeard, CanTell, hushed}
use Rattle.pz_sim.proofs.Replaced.{from_mapped, got_mapped, all_at}
use Rattle.pz_sim.proofs.Filled.{filled, filled_none, filled_all, filled_next, filled_here, filled_at, got_within}
use Rattle.pz_sim.proofs.Heard.{heard_but, silent_senders, silent_receivers}

-- The table of processes that all are silent

empty_row : {X : Type 0} (n i : ℕ) (row : List X) → slice_get (replicate n []) i ≡ Some row → row ≡ []
empty_row zero i row is = absurd cc
empty_row (suc n) zero row is = sym (same_Some [] row is)
empty_row (suc n) (suc i) row is = empty_row n i row is

none_in_all : {X : Type 0} (n : ℕ) → in_all (replicate n (let row : List X = [] in row)) ≡ []
none_in_all zero = refl
none_in_all (suc n) = none_in_all n

no_pairs : (ss : List Sender) (rs : List Receiver) → ss ≡ [] → ArePairs ss rs []
no_pairs ss rs none = record {
  ordered = λ i j d less within. absurd (omega (arith, less, within));
  sends = λ k d within. absurd (omega (arith, within));
  receives = λ k d within. absurd (omega (arith, within));
  fit = λ k d within. absurd (omega (arith, within));
  every = λ s r there_s there_r fits. absurd (none_there s (subst (λ (xs : List Sender). Contains xs s) none there_s));
}
  where
    none_there : (s : Sender) → Contains [] s → ⊥
    none_there s there = omega (arith, there.1)

abbrev silent_of : ModelTree → Tree → Member
silent_of m t = hushed (member_of m t)

replicate_length : {X : Type 0} (n : ℕ) (x : X) → length (replicate n x) ≡ n
replicate_length zero x = refl
replicate_length (suc n) x = ap suc (replicate_length n x)

module _ (m : ModelTree) (ts : List Tree) (n : ℕ) (count : n ≡ length ts) where
  all_rows : {X : Type 0} (rows : List (List X)) → rows ≡ replicate n [] → length rows ≡ length (map (silent_of m) ts)
  all_rows {X} rows are = ap (λ (xs : List (List X)). length xs) are ∙ replicate_length n [] ∙ count ∙ sym (length-map ts (silent_of m))

  pub silent_table : (table : Table) → table.senders ≡ replicate n [] → table.receivers ≡ replicate n [] → table.pairs ≡ [] → table.lost ≡ false → IsTable (map (silent_of m) ts) table
  silent_table table senders receivers pairs there = record {
    there = there;
    senders = record {
      all = all_rows table.senders senders;
      each = λ i h row at got.
          let made = from_mapped (silent_of m) ts i h at in
          let none : row ≡ [] = empty_row n i row (ap (λ (rows : List (List Sender)). slice_get rows i) (sym senders) ∙ got) in
          subst (λ (x : Member). SendersOf i x row) made.2 (subst (λ (xs : List Sender). SendersOf i (silent_of m made.0) xs) (sym none) (silent_senders i (member_of m made.0)));
    };
    receivers = record {
      all = all_rows table.receivers receivers;
      each = λ i h row at got.
          let made = from_mapped (silent_of m) ts i h at in
          let none : row ≡ [] = empty_row n i row (ap (λ (rows : List (List Receiver)). slice_get rows i) (sym receivers) ∙ got) in
          subst (λ (x : Member). ReceiversOf i x row) made.2 (subst (λ (xs : List Receiver). ReceiversOf i (silent_of m made.0) xs) (sym none) (silent_receivers i (member_of m made.0)));
    };
    pairs = subst (λ (ps : List Judged). ArePairs (in_all table.senders) (in_all table.receivers) ps) (sym pairs)
        (no_pairs (in_all table.senders) (in_all table.receivers) (ap (λ (rows : List (List Sender)). in_all rows) senders ∙ none_in_all n));
    truthful = λ k d within. absurd (omega (arith, within, ap (λ (ps : List Judged). length ps) pairs));
  }

-- So many of them have been asked

abbrev pub staged : ModelTree → ℕ → List Tree → List Member
staged m k ts = filled (member_of m) (λ t. hushed (member_of m t)) k ts

module _ (m : ModelTree) (clock : ℕ) (ts : List Tree) where
  pub none_asked : (n : ℕ) (table : Table) → n ≡ 0 → IsTable (map (λ t. hushed (member_of m t)) ts) table → ∥ IsTable (staged m n ts) table ∥₁
  none_asked n table none is =
      subst (λ (k : ℕ). ∥ IsTable (staged m k ts) table ∥₁) (sym none)
      ∣ subst (λ (hs : List Member). IsTable hs table) (sym (filled_none (member_of m) (silent_of m) ts)) is ∣₁

  pub all_asked : (n : ℕ) (table : Table) → n ≡ length ts → ∥ IsTable (staged m n ts) table ∥₁ → ∥ IsTable (members_of m ts) table ∥₁
  all_asked n table all is =
      subst (λ (hs : List Member). ∥ IsTable hs table ∥₁) (ap (λ (k : ℕ). staged m k ts) all ∙ filled_all (member_of m) (silent_of m) ts) is

  module _ (asked : All (CanBeAsked m clock) ts) where
    may_ask : (i : ℕ) (t : Tree) → slice_get ts i ≡ Some t → CanBeAsked m clock t
    may_ask i t at = all_at (CanBeAsked m clock) ts i t asked at

    pub are_heard : (k : ℕ) → AreHeard m clock ts (staged m k ts)
    are_heard k i h is = by (filled_at (member_of m) (silent_of m) k i ts h is)
      where
        by : (t : Tree) × (slice_get ts i ≡ Some t) × ((h ≡ member_of m t) ⊎ (h ≡ silent_of m t)) → (h.term ≡ done) ⊎ IsHeard m clock ts i h
        by (t, at, inl e) = let can = may_ask i t at in inr (record { tree = t; is = at; fresh = can.fresh; same_clock = can.same_clock; same = e })
        by (t, at, inr e) = inl (ap (λ (x : Member). x.term) e)

    pub can_tell : (k : ℕ) (t : Tree) (table : Table) → slice_get ts k ≡ Some t → IsTable (staged m k ts) table → CanTell m clock ts table k
    can_tell k t table at is =
        let can = may_ask k t at in
        record {
          members = staged m k ts;
          table = is;
          heard = heard_but m clock ts (staged m k ts) k (are_heard k);
          before = silent_of m t;
          is_before = filled_here (member_of m) (silent_of m) k ts t at;
          tree = t;
          is = at;
          fresh = can.fresh;
          same_clock = can.same_clock;
          fits = can.fits;
        }

  pub may_tell : (us : List Tree) (k n : ℕ) (table : Table) → us ≡ ts → k < n → n ≡ length ts → ∥ All (CanBeAsked m clock) ts ∥₁ → ∥ IsTable (staged m k ts) table ∥₁ → ∥ CanTell m clock us table k ∥₁
  may_tell us k n table same less count asked is =
      let one = got_within ts k n less count in
      subst (λ (vs : List Tree). ∥ CanTell m clock vs table k ∥₁) (sym same)
      (∥∥₁_elim asked squash₁ (λ all. ∥∥₁_map is (λ table_is. can_tell all k one.0 table one.1 table_is)))

  pub one_told : (us : List Tree) (k n : ℕ) (net : Net) (old new : Table) → us ≡ ts → k < n → n ≡ length ts → ∥ IsNet m net ∥₁ → ∥ All (CanBeAsked m clock) ts ∥₁ → ∥ IsTable (staged m k ts) old ∥₁
      → (IsNet m net → (hs : List Member) (tree : Tree) → slice_get us k ≡ Some tree → AreHeardBut m clock us k hs → IsTable hs old → CanTell m clock us old k → IsTable (set hs k (member_of m tree)) new)
      → ∥ IsTable (staged m (k + 1) ts) new ∥₁
  one_told us k n net old new same less count known asked is tells =
      let one = got_within ts k n less count in
      ∥∥₁_elim known squash₁ (λ net_is. ∥∥₁_elim asked squash₁ (λ all. ∥∥₁_map is (λ table.
      subst (λ (hs : List Member). IsTable hs new) (filled_next (member_of m) (silent_of m) k ts one.0 one.1)
      (tells net_is (staged m k ts) one.0 (ap (λ (vs : List Tree). slice_get vs k) same ∙ one.1)
      (subst (λ (vs : List Tree). AreHeardBut m clock vs k (staged m k ts)) (sym same) (heard_but m clock ts (staged m k ts) k (are_heard all k))) table
      (subst (λ (vs : List Tree). CanTell m clock vs old k) (sym same) (can_tell all k one.0 old one.1 table))))))

-- Trees of a configuration

pub tree_fits : (setting : Setting) (clock : ℕ) (ts : List Tree) (i : ℕ) (t : Tree) → AreTrees setting clock ts → slice_get ts i ≡ Some t → TermFits setting.model t.class.0 0 (term_in t)
tree_fits setting clock ts i t are at =
    let m = setting.model in
    let here : slice_get (members_of m ts) i ≡ Some (member_of m t) = got_mapped (member_of m) ts i t at in
    let place = got_within (processes m) i (length ts) (slice_get_within ts i t at) (sym (length-map ts (member_of m)) ∙ are.members.whole) in
    let class : t.class.0 ≡ class_at m place.0 = ap (λ (a : Context). a.class) (are.members.each i (member_of m t) place.0 here place.1) in
    subst (λ (c : ℕ). TermFits m c 0 (term_in t)) (sym class)
    (are.fit i place.0 (process_of (member_of m t)) place.1 (got_mapped process_of (members_of m ts) i (member_of m t) here))

pub may_be_asked : (setting : Setting) (clock : ℕ) (ts : List Tree) → AreTrees setting clock ts → All (CanBeAsked setting.model clock) ts
may_be_asked setting clock ts are k d within = record {
  fresh = are.fresh k d within;
  same_clock = are.clocks k d within;
  fits = tree_fits setting clock ts k (get_or ts k d) are (slice_get-get_or ts k d within);
}

pub count_of : (setting : Setting) (clock : ℕ) (ts : List Tree) (net : Net) (n : ℕ) → ∥ IsNet setting.model net ∥₁ → ((m : ModelTree) → IsNet m net → n ≡ length (processes m)) → ∥ AreTrees setting clock ts ∥₁ → n ≡ length ts
count_of setting clock ts net n known counted are =
    ∥∥₁_elim known (ℕ_set n (length ts)) (λ net_is. ∥∥₁_elim are (ℕ_set n (length ts)) (λ k.
    counted setting.model net_is ∙ sym k.members.whole ∙ length-map ts (member_of setting.model)))

pub fresh_each : (setting : Setting) (clock : ℕ) (ts : List Tree) → ∥ AreTrees setting clock ts ∥₁ → All (λ t. ∥ ((m : ModelTree) × IsFresh m t) ∥₁) ts
fresh_each setting clock ts are k d within = ∥∥₁_map are (λ x. (setting.model, x.fresh k d within))

pub there_still : (hs : List Member) (table : Table) → ∥ IsTable hs table ∥₁ → table.lost ≡ false
there_still hs table is = ∥∥₁_elim is (Bool-set table.lost false) (λ x. x.there)

-- their totals at their clock
pub totals_at : (m : ModelTree) (clock : ℕ) (ts : List Tree) → All (λ t. t.clock ≡ clock) ts → map (λ t. total_of t.clock (member_of m t)) ts ≡ map (total_of clock) (members_of m ts)
totals_at m clock [] all = refl
totals_at m clock (t ∷ ts) all =
    let first : total_of t.clock (member_of m t) ≡ total_of clock (member_of m t) = ap (λ (c : ℕ). total_of c (member_of m t)) (all 0 t (omega arith)) in
    let rest = totals_at m clock ts (λ k d within. all (suc k) d (omega (arith, within))) in
    λ i. first i ∷ rest i

-- all that is kept of trees that have been asked
pub kept_so : (setting : Setting) (clock : ℕ) (ts us : List Tree) (totals : List Total) (table : Table) (moment : Moment) → us ≡ ts → ∥ AreTrees setting clock ts ∥₁
    → ((m : ModelTree) → All (IsFresh m) ts → totals ≡ map (λ t. total_of t.clock (member_of m t)) ts) → ∥ IsTable (members_of setting.model ts) table ∥₁
    → moment ≡ decided clock (sums.all totals) table.pairs → ∥ AreKept setting clock us totals table moment ∥₁
kept_so setting clock ts us totals table moment same are summed is decides =
    subst (λ (vs : List Tree). ∥ AreKept setting clock vs totals table moment ∥₁) (sym same)
    (∥∥₁_elim are squash₁ (λ k. ∥∥₁_map is (λ x.
    let totals_are : totals ≡ map (total_of clock) (members_of setting.model ts) = summed setting.model k.fresh ∙ totals_at setting.model clock ts k.clocks in
    record {
      are_trees = k;
      are_totals = totals_are;
      is_table = x;
      is_moment = decides ∙ ap (λ (xs : List Total). decided clock (sums.all xs) table.pairs) totals_are;
    })))
