-- What a search finds among the parts of a group, and what an edit at that place does.
use Rattle.std.proofs.Common.{◌≡◌, ◌≢◌, ℕ, zero, suc, nat_eq, ◌+◌, ◌-◌, ◌<◌, ◌≤◌, ◌&&◌, Bool, true, false, List, [], ◌∷◌, ◌++◌, length, get_or, set, Result, Ok, Err, IfOk, IfErr, refl, sym, ◌∙◌, ap, subst, if◌then◌else◌, arith}
use Rattle.std.specs.List.{insert}
use Rattle.std.specs.List.Sorted.{IsSearchInRange, IsBinarySearchResult, IsNonDecreasingBy}
use Rattle.std.specs.Ordering.{nat_cmp, ordering_index}
use Rattle.std.proofs.lemmas.Cmp.{ranked}
use Rattle.std.proofs.lemmas.List.Sorted.{IsNonDecreasingBy-from_default}
use Rattle.std.proofs.lemmas.List.Edits.{length-insert, get_or-insert_below, get_or-insert_at, get_or-insert_above}
use Rattle.std.proofs.lemmas.List.{get_or-set_same, get_or-set_other}
use Rattle.std.proofs.lemmas.Bool.{ne_eqb, eqb-true, eqb-false}
use Rattle.std.proofs.lemmas.Bool.Decides.{nat_tests}
use Rattle.std.proofs.lemmas.Grind.{common_steps}
use Rattle.pz_match_lists.specs.declared.shares.Share.{Share}
use Rattle.pz_match_lists.specs.declared.shares.Part.{Part}
use Rattle.pz_match_lists.specs.Shares.{no_share, share_in, share_at}
use Rattle.pz_match_lists.specs.devices.Parts.{block_at, AreOrdered, IsPartAt, IsGapFor}

abbrev pub none : Part
none = record { block = 0; share = no_share }

-- no part before place i is of the block
abbrev pub NoneBefore : List Part → ℕ → ℕ → Type 0
NoneBefore ps b i = (j : ℕ) → j < i → block_at ps j ≢ b

none_before_tail : (x : Part) (ps : List Part) (b i : ℕ) → NoneBefore (x ∷ ps) b (suc i) → NoneBefore ps b i
none_before_tail x ps b i apart j lt = apart (suc j) (omega (arith, lt))

pub in_absent : (ps : List Part) (b : ℕ) → NoneBefore ps b (length ps) → share_in ps b ≡ no_share
in_absent [] b apart = refl
in_absent (x ∷ ps) b apart = ap (λ c. if c then x.share else share_in ps b) (ne_eqb x.block b (apart 0 (omega arith))) ∙ in_absent ps b (none_before_tail x ps b (length ps) (λ j lt. apart j (omega (arith, lt))))

pub in_present : (ps : List Part) (b i : ℕ) → IsPartAt ps b i → NoneBefore ps b i → share_in ps b ≡ (get_or ps i none).share
in_present [] b i at apart = absurd (omega (arith, at.in_range))
in_present (x ∷ ps) b zero at apart = grind (arith, nat_tests, at.has_block)
in_present (x ∷ ps) b (suc i) at apart =
    ap (λ c. if c then x.share else share_in ps b) (ne_eqb x.block b (apart 0 (omega arith)))
    ∙ in_present ps b i (record { in_range = omega (arith, at.in_range); has_block = at.has_block }) (none_before_tail x ps b i apart)

-- a part that is written over, or put before all that are of the block
abbrev pub GetsAfter : List Part → List Part → ℕ → Share → Type 0
GetsAfter old new b s = (c : ℕ) → share_in new c ≡ (if nat_eq b c then s else share_in old c)

pub in_set : (ps : List Part) (b i : ℕ) (s : Share) → IsPartAt ps b i → NoneBefore ps b i → GetsAfter ps (set ps i (record { block = b; share = s })) b s
in_set [] b i s at apart c = absurd (omega (arith, at.in_range))
in_set (x ∷ ps) b zero s at apart c = grind (arith, nat_tests, at.has_block)
in_set (x ∷ ps) b (suc i) s at apart c = grind (arith, nat_tests, apart 0 (omega arith), in_set ps b i s (record { in_range = omega (arith, at.in_range); has_block = at.has_block }) (none_before_tail x ps b i apart) c)

pub in_insert : (ps : List Part) (b i : ℕ) (s : Share) → NoneBefore ps b i → GetsAfter ps (insert ps i (record { block = b; share = s })) b s
in_insert ps b zero s apart c = refl
in_insert [] b (suc i) s apart c = refl
in_insert (x ∷ ps) b (suc i) s apart c = grind (arith, nat_tests, apart 0 (omega arith), in_insert ps b i s (none_before_tail x ps b i apart) c)

module _ (ps : List Part) (ordered : AreOrdered ps) (b : ℕ) where
  -- the comparisons rise along the parts, as a binary search asks
  comparisons_rise : IsNonDecreasingBy (λ part. ordering_index (nat_cmp part.block b)) ps
  comparisons_rise = IsNonDecreasingBy-from_default (λ part. ordering_index (nat_cmp part.block b)) ps none (λ i j le in_range.
      let blocks_rise : block_at ps i ≤ block_at ps j = grind (arith, ordered i j, λ (same : i ≡ j). ap (block_at ps) same) in
      grind (arith, nat_tests))

  pub searched : (r : Result ℕ ℕ) → IsSearchInRange r (length ps) → IsBinarySearchResult (λ part. nat_cmp part.block b) ps r → record { found : IfOk r (IsPartAt ps b); absent : IfErr r (IsGapFor ps b) }
  searched (Ok at) in_range equal = record { found = record { in_range = in_range; has_block = ranked _ b _ (sym (equal none)) }; absent = tt }
  searched (Err at) in_range parted = record {
    found = tt;
    absent = record {
      in_range = in_range;
      smaller_before = λ j lt. ranked _ b _ (sym ((parted comparisons_rise).0 j none (omega arith) lt));
      greater_after = λ j le lt. ranked _ b _ (sym ((parted comparisons_rise).1 j none le lt));
    };
  }

module _ (ps : List Part) (ordered : AreOrdered ps) (b at : ℕ) (is_at : IsPartAt ps b at) where
  none_before_at : NoneBefore ps b at
  none_before_at j lt same = omega (arith, ordered j at lt is_at.in_range, is_at.has_block, same)

  pub share_there : share_in ps b ≡ (get_or ps at none).share
  share_there = in_present ps b at is_at none_before_at

  pub gets_set : (s : Share) → GetsAfter ps (set ps at (record { block = b; share = s })) b s
  gets_set s = in_set ps b at s is_at none_before_at

  pub ordered_set : (s : Share) → AreOrdered (set ps at (record { block = b; share = s }))
  ordered_set s i j lt in_range = grind (arith, common_steps, ordered i j, ordered i at, ordered at j, is_at.in_range, is_at.has_block)

module _ (ps : List Part) (b at : ℕ) (gap : IsGapFor ps b at) where
  pub nothing_there : share_in ps b ≡ no_share
  nothing_there = in_absent ps b (λ j lt same. grind (arith, gap.smaller_before j, gap.greater_after j))

  pub gets_insert : (s : Share) → GetsAfter ps (insert ps at (record { block = b; share = s })) b s
  gets_insert s = in_insert ps b at s (λ j lt same. omega (arith, gap.smaller_before j lt, same))

  pub ordered_insert : (s : Share) → AreOrdered ps → AreOrdered (insert ps at (record { block = b; share = s }))
  ordered_insert s ordered i j lt in_range =
      let new = insert ps at (record { block = b; share = s }) in
      let key = λ (x : Part). x.block in
      let length_new = length-insert ps at (record { block = b; share = s }) gap.in_range in
      let key_below : (i : ℕ) → i < at → block_at new i ≡ block_at ps i = λ i below. ap key (get_or-insert_below ps at (record { block = b; share = s }) none i below gap.in_range) in
      let key_here : (i : ℕ) → i ≡ at → block_at new i ≡ b = λ i here. rw here (ap key (get_or-insert_at ps at (record { block = b; share = s }) none gap.in_range)) in
      let key_above : (i : ℕ) → at < i → block_at new i ≡ block_at ps (i - 1) = λ i above. subst (λ q. block_at new q ≡ block_at ps (i - 1)) {x = i - 1 + 1} (omega arith) (ap key (get_or-insert_above ps at (record { block = b; share = s }) none (i - 1) (omega arith) gap.in_range)) in
      grind (arith, key_below i, key_here i, key_above i, key_below j, key_here j, key_above j, ordered i j, ordered i (j - 1), ordered (i - 1) (j - 1), gap.smaller_before i, gap.greater_after (j - 1))

-- Groups

set_here : (xs : List (List Part)) (g : ℕ) (zs : List Part) → g < length xs → get_or (set xs g zs) g [] ≡ zs
set_here xs g zs lt = get_or-set_same xs g zs [] lt

pub parts_set : (xs : List (List Part)) (g : ℕ) (ys zs : List Part) (b : ℕ) (s : Share) → g < length xs → ys ≡ get_or xs g [] → GetsAfter ys zs b s
    → (h c : ℕ) → share_at (set xs g zs) h c ≡ (if nat_eq g h && nat_eq b c then s else share_at xs h c)
parts_set xs g ys zs b s lt is gets h c = by (nat_eq g h) refl
  where
    by : (t : Bool) → nat_eq g h ≡ t → share_at (set xs g zs) h c ≡ (if t && nat_eq b c then s else share_at xs h c)
    by true same =
        let e : g ≡ h = eqb-true g h same in
        ap (λ k. share_at (set xs g zs) k c) (sym e)
        ∙ (ap (λ (ps : List Part). share_in ps c) (set_here xs g zs lt)
        ∙ (gets c ∙ ap (λ (ps : List Part). if nat_eq b c then s else share_in ps c) (is ∙ ap (λ k. get_or xs k []) e)))
    by false other = ap (λ (ps : List Part). share_in ps c) (get_or-set_other xs g h zs [] (λ e. eqb-false g h other (sym e)))

pub empty_pushed : (xs : List (List Part)) (ys : List Part) (g b : ℕ) → ys ≡ [] → share_at (xs ++ ys ∷ []) g b ≡ share_at xs g b
empty_pushed [] ys zero b nil = ap (λ (ps : List Part). share_in ps b) nil
empty_pushed [] ys (suc g) b nil = refl
empty_pushed (x ∷ xs) ys zero b nil = refl
empty_pushed (x ∷ xs) ys (suc g) b nil = empty_pushed xs ys g b nil
