-- Words are those of an entry exactly where they are read as that entry.
use Rattle.std.proofs.Common.{◌≡◌, refl, ◌∙◌, sym, ap, subst, ℕ, ◌<◌, ◌≤◌, Bool, true, false, ◌&&◌, List, [], ◌∷◌, length, Option, Some, None, arith}
use Rattle.std.specs.Prelude.{ℤ, nat_le, if◌then◌else◌, bytes_eq, option_map, codes}
use Rattle.std.specs.Borrow.{Bor}
use Rattle.std.specs.Fmt.{decimal}
use Rattle.std.proofs.lemmas.Bool.{leb-true, le-leb}
use Rattle.std.proofs.lemmas.Slice.Eq.{bytes_eq-Decides}
use Rattle.pz_lines.specs.Identifiers.{is_identifier}
use Rattle.pz_value.specs.declared.value.Value.{Value}
use Rattle.pz_env_script.specs.declared.entry.Entry.{Entry}
use Rattle.pz_env_script.specs.declared.entry.Transfer.{Transfer}
use Rattle.pz_env_script.specs.declared.entry.Transfer.TheVariants.{Send, Receive}
use Rattle.pz_env_script.specs.Entries.{most_values, IsTransfer, sends, receives, AreWordsOf}
use Rattle.pz_env_script.specs.devices.Reading.{wait_in, literals_of, values_of, count_in, transfer_of, are_names, put_together, entry_of, texts}
use Rattle.pz_env_script.proofs.Answering.{mapped, both, split, up_found, up_tells}
use Rattle.pz_env_script.proofs.LiteralWords.{wait_tells, wait_found, literals_write, literals_found, as_many}

-- What is sent or received

abbrev if_few : List (List ℕ) → Bool → Option (List Value)
if_few ws b = if b then literals_of ws else None

values_write : (ws : List (List ℕ)) (vs : List Value) → values_of ws ≡ Some vs → IsTransfer (codes "send") ws (Send vs)
values_write ws vs e = by (nat_le (length ws) most_values) (leb-true (length ws) most_values) e
  where
    by : (b : Bool) → (b ≡ true → length ws ≤ most_values) → if_few ws b ≡ Some vs → IsTransfer (codes "send") ws (Send vs)
    by true few e =
        let are = literals_write ws vs e in
        sends ws vs are (subst (λ (k : ℕ). k ≤ most_values) (as_many ws vs are) (few refl))
    by false few e = absurd cc

count_writes : (ws : List (List ℕ)) (k : ℕ) → count_in ws ≡ Some k → IsTransfer (codes "receive") ws (Receive k)
count_writes [] k e = absurd cc
count_writes (w ∷ []) k e =
    let is = up_tells most_values k w e in
    subst (λ (v : List ℕ). IsTransfer (codes "receive") (v ∷ []) (Receive k)) (sym is.0) (receives k is.1)
count_writes (w ∷ v ∷ ws) k e = absurd cc

spelled_so : (action text : List ℕ) (ws : List (List ℕ)) (s t : Transfer) → action ≡ text → s ≡ t → IsTransfer text ws s → IsTransfer action ws t
spelled_so action text ws s t same e is =
    subst (λ (a : List ℕ). IsTransfer a ws t) (sym same) (subst (IsTransfer text ws) e is)

abbrev if_received : List (List ℕ) → Bool → Option Transfer
if_received ws b = if b then option_map Receive (count_in ws) else None

transfer_writes : (action : List ℕ) (ws : List (List ℕ)) (t : Transfer) → transfer_of action ws ≡ Some t → IsTransfer action ws t
transfer_writes action ws t e = at_send (bytes_eq action (codes "send")) (bytes_eq-Decides action (codes "send")).0 e
  where
    at_receive : (b : Bool) → (b ≡ true → action ≡ codes "receive") → if_received ws b ≡ Some t → IsTransfer action ws t
    at_receive true same e =
        let at = mapped Receive (count_in ws) t e in
        spelled_so action (codes "receive") ws (Receive at.0) t (same refl) at.2 (count_writes ws at.0 at.1)
    at_receive false same e = absurd cc

    at_send : (b : Bool) → (b ≡ true → action ≡ codes "send") → (if b then option_map Send (values_of ws) else if_received ws (bytes_eq action (codes "receive"))) ≡ Some t → IsTransfer action ws t
    at_send true same e =
        let at = mapped Send (values_of ws) t e in
        spelled_so action (codes "send") ws (Send at.0) t (same refl) at.2 (values_write ws at.0 at.1)
    at_send false same e = at_receive (bytes_eq action (codes "receive")) (bytes_eq-Decides action (codes "receive")).0 e

transfer_found : (action : List ℕ) (ws : List (List ℕ)) (t : Transfer) → IsTransfer action ws t → transfer_of action ws ≡ Some t
transfer_found _ _ _ (sends ws vs are few) =
    let low : length ws ≤ most_values = subst (λ (k : ℕ). k ≤ most_values) (sym (as_many ws vs are)) few in
    ap (λ (b : Bool). option_map Send (if_few ws b)) (le-leb (length ws) most_values low) ∙ ap (option_map Send) (literals_found ws vs are)
transfer_found _ _ _ (receives k few) =
    ap (option_map Receive) (up_found most_values k (decimal k) few (omega arith) refl)

-- The entry

put_tells : (o : Option ℤ) (b : Bool) (i p m : List ℕ) (s : Option Transfer) (e : Entry) → put_together o b i p m s ≡ Some e → (z : ℤ) × (t : Transfer) × (o ≡ Some z) × (b ≡ true) × (s ≡ Some t) × ((record { wait = z; instance = i; port = p; message = m; transfer = t }) ≡ e)
put_tells None b i p m s e is = absurd cc
put_tells (Some z) false i p m s e is = absurd cc
put_tells (Some z) true i p m None e is = absurd cc
put_tells (Some z) true i p m (Some t) e is = (z, t, refl, refl, refl, cc)

entry_there : (d a i p m : List ℕ) (ws : List (List ℕ)) (e : Entry) → entry_of (d ∷ a ∷ i ∷ p ∷ m ∷ ws) ≡ Some e → AreWordsOf (d ∷ a ∷ i ∷ p ∷ m ∷ ws) e
entry_there d a i p m ws e is =
    let at = put_tells (wait_in d) (are_names i p m) i p m (transfer_of a ws) e is in
    let time = wait_tells d at.0 at.2 in
    let one = split (is_identifier i) (is_identifier p && is_identifier m) at.3 in
    let two = split (is_identifier p) (is_identifier m) one.1 in
    subst
    (AreWordsOf (d ∷ a ∷ i ∷ p ∷ m ∷ ws))
    at.5
    (record {
      wait = time.0;
      action = a;
      rest = ws;
      are = ap (λ (w : List ℕ). w ∷ a ∷ i ∷ p ∷ m ∷ ws) time.1;
      waits = time.2;
      short = time.3;
      instance = one.0;
      port = two.0;
      message = two.1;
      transfer = transfer_writes a ws at.1 at.4;
    })

pub entry_writes : (ws : List (List ℕ)) (e : Entry) → entry_of ws ≡ Some e → AreWordsOf ws e
entry_writes [] e is = absurd cc
entry_writes (d ∷ []) e is = absurd cc
entry_writes (d ∷ a ∷ []) e is = absurd cc
entry_writes (d ∷ a ∷ i ∷ []) e is = absurd cc
entry_writes (d ∷ a ∷ i ∷ p ∷ []) e is = absurd cc
entry_writes (d ∷ a ∷ i ∷ p ∷ m ∷ ws) e is = entry_there d a i p m ws e is

pub entry_found : (ws : List (List ℕ)) (e : Entry) → AreWordsOf ws e → entry_of ws ≡ Some e
entry_found ws e is =
    let named : are_names e.instance e.port e.message ≡ true =
    both (is_identifier e.instance) (is_identifier e.port && is_identifier e.message) is.instance (both (is_identifier e.port) (is_identifier e.message) is.port is.message)
    in
    ap (λ (v : List (List ℕ)). entry_of v) is.are
    ∙ ap
    (λ (o : Option ℤ). put_together o (are_names e.instance e.port e.message) e.instance e.port e.message (transfer_of is.action is.rest))
    (wait_found is.wait is.short ∙ ap (λ (z : ℤ). Some z) (sym is.waits))
    ∙ ap (λ (b : Bool). put_together (Some e.wait) b e.instance e.port e.message (transfer_of is.action is.rest)) named
    ∙ ap
    (λ (s : Option Transfer). put_together (Some e.wait) true e.instance e.port e.message s)
    (transfer_found is.action is.rest e.transfer is.transfer)

pub few_words : (words : List (Bor (List ℕ))) → length words < 5 → entry_of (texts words) ≡ None
few_words [] few = refl
few_words (d ∷ []) few = refl
few_words (d ∷ a ∷ []) few = refl
few_words (d ∷ a ∷ i ∷ []) few = refl
few_words (d ∷ a ∷ i ∷ p ∷ []) few = refl
few_words (d ∷ a ∷ i ∷ p ∷ m ∷ words) few = absurd (omega arith)

pub three_names : (i p m : List ℕ) → are_names i p m ≡ true → (is_identifier i ≡ true) × (is_identifier p ≡ true) × (is_identifier m ≡ true)
three_names i p m e =
    let one = split (is_identifier i) (is_identifier p && is_identifier m) e in
    let two = split (is_identifier p) (is_identifier m) one.1 in
    (one.0, two.0, two.1)
