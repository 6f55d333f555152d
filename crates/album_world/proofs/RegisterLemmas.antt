-- Clients in the order of their first asks, for `Clients`: a client is at the index of its number, or nowhere. They are
-- the values of a map, whose keys are their numbers.
use Rattle.std.proofs.Common.{◌≡◌, ℕ, zero, suc, ◌+◌, ◌<◌, ◌≤◌, Bool, true, false, cond, not, ◌||◌, ◌==◌, ltb, List, [], ◌∷◌, ◌++◌, map, length, set, get_or, drop, max, Option, Some, None, position, Result, Ok, Err, IsOk, IsOkAnd, IfOk, OnErr, IfSome, IfNone, refl, sym, ap, ◌∙◌, subst, arith}
use Rattle.std.specs.List.{list_any, position_or_len, slice_get}
use Rattle.std.specs.Map.{keys_of, values_of}
use Rattle.std.proofs.lemmas.Bool.{eqb-true, ltb-false, ltb-true}
use Rattle.std.proofs.lemmas.List.{drop_more, map-append}
use Rattle.std.proofs.lemmas.Option.{get_or_from_slice_get, slice_get_within}
use Rattle.indexmap.specs.IndexMap.{IndexMap, insert_entry, keys, set_value_at, values, with_value_at}
use Rattle.indexmap.proofs.CallerLemmas.{keys-with_value_at}
use Rattle.album_stamps.specs.declared.refusals.Refusal.{Refusal}
use Rattle.album_calls.specs.declared.messages.Message.{Message}
use Rattle.album_eval.specs.declared.facts.Principal.{Principal}
use Rattle.album_views.specs.Checks.{refusal_of}
use Rattle.album_views.specs.declared.asks.Ask.{Ask}
use Rattle.album_reader.proofs.Snapshots.{sameness-sym}
use Rattle.album_client.specs.Terms.{Terms}
use Rattle.album_client.specs.Clients.{Client, newcomer}
use Rattle.album_client.specs.Steps.{TransitionState}
use Rattle.album_permits.specs.declared.outs.Out.{Out}
use Rattle.album_world.specs.State.{client_at, highest_counter, with_client}
use Rattle.album_world.specs.Changes.{Change, asks_unless}
use Rattle.album_world.specs.Changes.Change.{Nothing, AtPart, AtClient, Stops}
use Rattle.album_world.specs.Moves.{IsChangedBy, IsInstalled}
use Rattle.album_world.specs.Registers.{AreChangedBy, StandsAt, asks_of, has_number, numbers_of, takes_of}

-- the index of the number
abbrev index_in : ℕ → List Client → ℕ
index_in n cs = position_or_len (λ m. n == m) (numbers_of cs)

-- ---- a client that is there

-- where the first client has the number, and where it hasn't
index_here : (c : Client) (cs : List Client) (n : ℕ) → (n == c.number) ≡ true → index_in n (c ∷ cs) ≡ 0
index_here c cs n e = ap (λ t. cond (not t) (1 + index_in n cs) 0) e

index_there : (c : Client) (cs : List Client) (n : ℕ) → (n == c.number) ≡ false → index_in n (c ∷ cs) ≡ suc (index_in n cs)
index_there c cs n e = ap (λ t. cond (not t) (1 + index_in n cs) 0) e ∙ omega arith

less : (c : Client) (cs : List Client) (n : ℕ) → (n == c.number) ≡ false → index_in n (c ∷ cs) < length (c ∷ cs)
    → index_in n cs < length cs
less c cs n e h = omega (arith, index_there c cs n e, h)

there_by : (c : Client) (cs : List Client) (n : ℕ) (d : Client) (b : Bool) → (n == c.number) ≡ b
    → (index_in n cs < length cs → client_at cs n ≡ get_or cs (index_in n cs) d) → index_in n (c ∷ cs) < length (c ∷ cs)
    → client_at (c ∷ cs) n ≡ get_or (c ∷ cs) (index_in n (c ∷ cs)) d
there_by c cs n d true e rest h =
    ap (λ t. cond t c (client_at cs n)) (sameness-sym c.number n ∙ e)
    ∙ sym (ap (λ k. get_or (c ∷ cs) k d) (index_here c cs n e))
there_by c cs n d false e rest h =
    ap (λ t. cond t c (client_at cs n)) (sameness-sym c.number n ∙ e) ∙ rest (less c cs n e h)
    ∙ sym (ap (λ k. get_or (c ∷ cs) k d) (index_there c cs n e))

there : (cs : List Client) (n : ℕ) (d : Client) → index_in n cs < length cs → client_at cs n ≡ get_or cs (index_in n cs) d
there [] n d h = absurd (omega arith)
there (c ∷ cs) n d h = there_by c cs n d (n == c.number) refl (there cs n d) h

own_by : (c : Client) (cs : List Client) (n : ℕ) (d : Client) (b : Bool) → (n == c.number) ≡ b
    → (index_in n cs < length cs → (get_or cs (index_in n cs) d).number ≡ n) → index_in n (c ∷ cs) < length (c ∷ cs)
    → (get_or (c ∷ cs) (index_in n (c ∷ cs)) d).number ≡ n
own_by c cs n d true e rest h =
    ap (λ k. (get_or (c ∷ cs) k d).number) (index_here c cs n e) ∙ sym (eqb-true n c.number e)
own_by c cs n d false e rest h =
    ap (λ k. (get_or (c ∷ cs) k d).number) (index_there c cs n e) ∙ rest (less c cs n e h)

own : (cs : List Client) (n : ℕ) (d : Client) → index_in n cs < length cs → (get_or cs (index_in n cs) d).number ≡ n
own [] n d h = absurd (omega arith)
own (c ∷ cs) n d h = own_by c cs n d (n == c.number) refl (own cs n d) h

put_by : (c : Client) (cs : List Client) (n : ℕ) (x : Client) (b : Bool) → (n == c.number) ≡ b → x.number ≡ n
    → (index_in n cs < length cs → with_client x cs ≡ set cs (index_in n cs) x) → index_in n (c ∷ cs) < length (c ∷ cs)
    → with_client x (c ∷ cs) ≡ set (c ∷ cs) (index_in n (c ∷ cs)) x
put_by c cs n x true e q rest h =
    ap (λ t. cond t (x ∷ cs) (c ∷ with_client x cs)) (ap (λ m. c.number == m) q ∙ sameness-sym c.number n ∙ e)
    ∙ sym (ap (λ k. set (c ∷ cs) k x) (index_here c cs n e))
put_by c cs n x false e q rest h =
    ap (λ t. cond t (x ∷ cs) (c ∷ with_client x cs)) (ap (λ m. c.number == m) q ∙ sameness-sym c.number n ∙ e)
    ∙ ap (λ xs. c ∷ xs) (rest (less c cs n e h)) ∙ sym (ap (λ k. set (c ∷ cs) k x) (index_there c cs n e))

put : (cs : List Client) (n : ℕ) (x : Client) → x.number ≡ n → index_in n cs < length cs
    → with_client x cs ≡ set cs (index_in n cs) x
put [] n x q h = absurd (omega arith)
put (c ∷ cs) n x q h = put_by c cs n x (n == c.number) refl q (put cs n x q) h

-- ---- one that isn't

absent : (k : ℕ) (ks : List ℕ) (n : ℕ) → list_any (λ m. n == m) (k ∷ ks) ≡ false → (n == k) ≡ false
absent k ks n h = go (n == k) refl
  where
    go : (b : Bool) → (n == k) ≡ b → (n == k) ≡ false
    go true e = absurd (cc)
    go false e = e

absent_rest : (k : ℕ) (ks : List ℕ) (n : ℕ) → list_any (λ m. n == m) (k ∷ ks) ≡ false → list_any (λ m. n == m) ks ≡ false
absent_rest k ks n h = sym (ap (λ t. t || list_any (λ m. n == m) ks) (absent k ks n h)) ∙ h

pub new_client : (cs : List Client) (n : ℕ) → list_any (λ m. n == m) (numbers_of cs) ≡ false → client_at cs n ≡ newcomer n
new_client [] n h = refl
new_client (c ∷ cs) n h =
    ap (λ t. cond t c (client_at cs n)) (sameness-sym c.number n ∙ absent c.number (numbers_of cs) n h)
    ∙ new_client cs n (absent_rest c.number (numbers_of cs) n h)

pub put_last : (cs : List Client) (n : ℕ) (x : Client) → list_any (λ m. n == m) (numbers_of cs) ≡ false → x.number ≡ n
    → with_client x cs ≡ cs ++ x ∷ []
put_last [] n x h q = refl
put_last (c ∷ cs) n x h q =
    ap (λ t. cond t (x ∷ cs) (c ∷ with_client x cs))
    (ap (λ m. c.number == m) q ∙ sameness-sym c.number n ∙ absent c.number (numbers_of cs) n h)
    ∙ ap (λ xs. c ∷ xs) (put_last cs n x (absent_rest c.number (numbers_of cs) n h) q)

-- ---- their numbers

pub numbers_push : (cs : List Client) (x : Client) → numbers_of (cs ++ x ∷ []) ≡ numbers_of cs ++ x.number ∷ []
numbers_push [] x = refl
numbers_push (c ∷ cs) x = ap (λ ns. c.number ∷ ns) (numbers_push cs x)

pub numbers_set : (cs : List Client) (i : ℕ) (x d : Client) → x.number ≡ (get_or cs i d).number
    → numbers_of (set cs i x) ≡ numbers_of cs
numbers_set [] i x d e = refl
numbers_set (c ∷ cs) zero x d e = ap (λ n. n ∷ numbers_of cs) e
numbers_set (c ∷ cs) (suc i) x d e = ap (λ ns. c.number ∷ ns) (numbers_set cs i x d e)

-- ---- by the index of the number

lengths : (cs : List Client) → length (numbers_of cs) ≡ length cs
lengths [] = refl
lengths (c ∷ cs) = ap suc (lengths cs)

abbrev option_else : Option ℕ → ℕ
option_else None = 0
option_else (Some k) = k

index_by : (b : Bool) (p i : ℕ) → cond b (Some p) None ≡ Some i → (b ≡ true) × (p ≡ i)
index_by true p i e = (refl, ap option_else e)
index_by false p i e = absurd (cc)

module _ (cs : List Client) (n i : ℕ) (found : position (λ m. n == m) (map (λ (c : Client). c.number) cs) ≡ Some i) where
  is_index : (index_in n cs < length cs) × (index_in n cs ≡ i)
  is_index =
      let h = index_by (ltb (index_in n cs) (length (numbers_of cs))) (index_in n cs) i found in
      let inside : index_in n cs < length (numbers_of cs) = ltb-true (index_in n cs) (length (numbers_of cs)) h.0 in
      (omega (arith, inside, lengths cs), h.1)

  pub stands : StandsAt cs n i
  stands = record {
    inside = omega (arith, is_index.0, is_index.1);
    client = λ d. there cs n d is_index.0 ∙ ap (λ k. get_or cs k d) is_index.1;
    own = λ d. sym (ap (λ k. (get_or cs k d).number) is_index.1) ∙ own cs n d is_index.0;
    put = λ x q. put cs n x q is_index.0 ∙ ap (λ k. set cs k x) is_index.1;
  }

-- ---- what one client does among all

-- nothing is changed where a client is put back as it was
put_back : (cs : List Client) (i : ℕ) (d : Client) → d ≡ get_or cs i d → set cs i d ≡ cs
put_back [] i d e = refl
put_back (c ∷ cs) zero d e = ap (λ x. x ∷ cs) e
put_back (c ∷ cs) (suc i) d e = ap (λ xs. c ∷ xs) (put_back cs i d e)

module _ (before n i : ℕ) (cs : List Client) (old x : Client) (at : StandsAt cs n i) (is : old ≡ get_or cs i old)
    (kept : x.number ≡ old.number) where
  its_number : x.number ≡ n
  its_number = kept ∙ ap (λ (c : Client). c.number) is ∙ at.own old

  its_state : client_at cs n ≡ old
  its_state = at.client old ∙ sym is

  among : (change : Change) (sent : List Message) (outs : List Out) → IsChangedBy before old change x sent outs
      → AreChangedBy before cs change (set cs i x) sent outs
  among Nothing sent outs h = record {
    clients = ap (λ c. set cs i c) h.client ∙ put_back cs i old is;
    silent = h.silent;
    no_outputs = h.no_outputs;
  }
  among (AtPart p held messages) sent outs h = absurd h
  among (AtClient m turn) sent outs h = record {
    clients = sym (at.put x its_number) ∙ ap (λ c. with_client c cs) h.1.client;
    sent_is = h.1.sent_is;
    outputs = h.1.outputs;
  }
  among (Stops m) sent outs h = absurd h

  -- a message
  taken : (terms : Terms) (message : Message) (sent : List Message) (outs : List Out)
      → IsChangedBy before old (takes_of terms old.number old message) x sent outs
      → AreChangedBy before cs (takes_of terms n (client_at cs n) message) (set cs i x) sent outs
  taken terms message sent outs h =
      subst (λ (c : Client). AreChangedBy before cs (takes_of terms n c message) (set cs i x) sent outs) (sym its_state)
      (subst (λ (m : ℕ). AreChangedBy before cs (takes_of terms m old message) (set cs i x) sent outs)
      (sym kept ∙ its_number) (among (takes_of terms old.number old message) sent outs h))

  all_of : (r : Result Change Refusal) (sent : List Message) (outs : List Out)
      → IsOkAnd r (λ change. IsChangedBy before old change x sent outs)
      → IsOkAnd r (λ change. AreChangedBy before cs change (set cs i x) sent outs)
  all_of (Ok change) sent outs h = among change sent outs h
  all_of (Err e) sent outs h = h

  -- an ask
  asked : (terms : Terms) (principal : Principal) (ask : Ask) (sent : List Message) (outs : List Out)
      → IsOkAnd (asks_of terms old.number old principal ask) (λ change. IsChangedBy before old change x sent outs)
      → IsOkAnd (asks_of terms n (client_at cs n) principal ask) (λ change. AreChangedBy before cs change (set cs i x) sent outs)
  asked terms principal ask sent outs h =
      subst (λ (c : Client). IsOkAnd (asks_of terms n c principal ask) (λ change. AreChangedBy before cs change (set cs i x) sent outs))
      (sym its_state)
      (subst (λ (m : ℕ). IsOkAnd (asks_of terms m old principal ask) (λ change. AreChangedBy before cs change (set cs i x) sent outs))
      (sym kept ∙ its_number) (all_of (asks_of terms old.number old principal ask) sent outs h))

-- one that never asked
module _ (before n : ℕ) (cs : List Client) (x : Client) (new : has_number cs n ≡ false) (own_number : x.number ≡ n)
    (terms : Terms) (principal : Principal) (ask : Ask) (sent : List Message) (outs : List Out) where
  first_by : (f : Option Refusal)
      → IsOkAnd (asks_unless terms n (newcomer n) 0 principal ask f) (λ change. IsChangedBy before (newcomer n) change x sent outs)
      → IsOkAnd (asks_unless terms n (newcomer n) 0 principal ask f) (λ change. AreChangedBy before cs change (cs ++ x ∷ []) sent outs)
  first_by (Some e) h = h
  first_by None h = record {
    clients = sym (put_last cs n x new own_number) ∙ ap (λ c. with_client c cs) h.1.client;
    sent_is = h.1.sent_is;
    outputs = h.1.outputs;
  }

  pub first_asked : IsOkAnd (asks_of terms n (newcomer n) principal ask) (λ change. IsChangedBy before (newcomer n) change x sent outs)
      → IsOkAnd (asks_of terms n (client_at cs n) principal ask) (λ change. AreChangedBy before cs change (cs ++ x ∷ []) sent outs)
  first_asked h =
      subst (λ (c : Client). IsOkAnd (asks_of terms n c principal ask) (λ change. AreChangedBy before cs change (cs ++ x ∷ []) sent outs))
      (sym (new_client cs n new)) (first_by (refusal_of ask principal) h)

-- the index of the number, if it is there
pub stands_if : (cs : List Client) (keys : List ℕ) (n : ℕ) (r : Option ℕ) → keys ≡ numbers_of cs
    → r ≡ position (λ m. n == m) keys → IfSome r (StandsAt cs n)
stands_if cs keys n None same e = tt
stands_if cs keys n (Some i) same e = stands cs n i (sym (e ∙ ap (position (λ m. n == m)) same))

-- no index where the number isn't there
nowhere_by : (k : ℕ) (ks : List ℕ) (n : ℕ) (b : Bool) → (n == k) ≡ b
    → (length ks ≤ position_or_len (λ m. n == m) ks → list_any (λ m. n == m) ks ≡ false)
    → length (k ∷ ks) ≤ position_or_len (λ m. n == m) (k ∷ ks) → list_any (λ m. n == m) (k ∷ ks) ≡ false
nowhere_by k ks n true e rest h =
    absurd (omega (arith, h, ap (λ t. cond (not t) (1 + position_or_len (λ m. n == m) ks) 0) e))
nowhere_by k ks n false e rest h =
    ap (λ t. t || list_any (λ m. n == m) ks) e
    ∙ rest (omega (arith, h, ap (λ t. cond (not t) (1 + position_or_len (λ m. n == m) ks) 0) e))

nowhere_from : (ks : List ℕ) (n : ℕ) → length ks ≤ position_or_len (λ m. n == m) ks → list_any (λ m. n == m) ks ≡ false
nowhere_from [] n h = refl
nowhere_from (k ∷ ks) n h = nowhere_by k ks n (n == k) refl (nowhere_from ks n) h

not_less : (b : Bool) (p : ℕ) → cond b (Some p) None ≡ None → b ≡ false
not_less true p e = absurd (cc)
not_less false p e = refl

nowhere : (ks : List ℕ) (n : ℕ) → position (λ m. n == m) ks ≡ None → list_any (λ m. n == m) ks ≡ false
nowhere ks n e =
    nowhere_from ks n (ltb-false (position_or_len (λ m. n == m) ks) (length ks)
    (not_less (ltb (position_or_len (λ m. n == m) ks) (length ks)) (position_or_len (λ m. n == m) ks) e))

pub missing_if : (cs : List Client) (keys : List ℕ) (n : ℕ) (r : Option ℕ) → keys ≡ numbers_of cs
    → r ≡ position (λ m. n == m) keys → IfNone r (has_number cs n ≡ false)
missing_if cs keys n None same e = nowhere (numbers_of cs) n (sym (e ∙ ap (position (λ m. n == m)) same))
missing_if cs keys n (Some i) same e = tt

-- a message to one that never asked does nothing
pub new_takes_nothing : (before n : ℕ) (cs : List Client) (terms : Terms) (message : Message) (sent : List Message) (outs : List Out)
    → has_number cs n ≡ false → sent ≡ [] → outs ≡ []
    → AreChangedBy before cs (takes_of terms n (client_at cs n) message) cs sent outs
new_takes_nothing before n cs terms message sent outs new s o =
    subst (λ (c : Client). AreChangedBy before cs (takes_of terms n c message) cs sent outs) (sym (new_client cs n new))
    (record { clients = refl; silent = s; no_outputs = o })

-- what may be asked by the number may be asked by the client at that index
may_there : (n i : ℕ) (cs : List Client) (old : Client) (terms : Terms) (p : Principal) (a : Ask) → StandsAt cs n i
    → old ≡ get_or cs i old → IsOk (asks_of terms n (client_at cs n) p a) → IsOk (asks_of terms old.number old p a)
may_there n i cs old terms p a at is h =
    subst (λ (m : ℕ). IsOk (asks_of terms m old p a)) (sym (ap (λ (c : Client). c.number) is ∙ at.own old))
    (subst (λ (c : Client). IsOk (asks_of terms n c p a)) (at.client old ∙ sym is) h)

-- a client that had its turn, or was refused it, keeps its number
pub turned_number : {Outs : Type 0} (r : Result Outs Refusal) (old new : Client) (turn : TransitionState) (before : ℕ)
    (sent : Outs → List Message) (outs : Outs → List Out) → turn.client.number ≡ old.number
    → IfOk r (λ given. IsInstalled before old.number turn new (sent given) (outs given)) → OnErr r (new ≡ old)
    → new.number ≡ old.number
turned_number (Ok given) old new turn before sent outs same h e = ap (λ (c : Client). c.number) h.client ∙ same
turned_number (Err why) old new turn before sent outs same h e = ap (λ (c : Client). c.number) e

-- ---- as the values of a map

values_at : (es : List (ℕ × Client)) (i : ℕ) (x : Client) → values_of (set_value_at es i x) ≡ set (values_of es) i x
values_at [] i x = refl
values_at (e ∷ es) zero x = refl
values_at (e ∷ es) (suc i) x = ap (λ cs. e.1 ∷ cs) (values_at es i x)

entries_push : (es : List (ℕ × Client)) (n : ℕ) (x : Client) → list_any (λ m. n == m) (keys_of es) ≡ false
    → insert_entry (λ i j. i == j) es n x ≡ es ++ (n, x) ∷ []
entries_push [] n x h = refl
entries_push (e ∷ es) n x h =
    ap (λ (b : Bool). cond b ((e.0, x) ∷ es) (e ∷ insert_entry (λ i j. i == j) es n x)) (absent e.0 (keys_of es) n h)
    ∙ ap (λ rest. e ∷ rest) (entries_push es n x (absent_rest e.0 (keys_of es) n h))

-- a new client is put last, and so is its number
module _ {S : Type 0} (m : IndexMap ℕ Client S) (n : ℕ) (x : Client) (same : keys m ≡ numbers_of (values m))
    (new : has_number (values m) n ≡ false) (own : x.number ≡ n) where
  entries_pushed : insert_entry (λ i j. i == j) m.entries n x ≡ m.entries ++ (n, x) ∷ []
  entries_pushed = entries_push m.entries n x (ap (list_any (λ m. n == m)) same ∙ new)

  pub pushed : values_of (insert_entry (λ i j. i == j) m.entries n x) ≡ values m ++ x ∷ []
  pushed = ap values_of entries_pushed ∙ map-append (λ e. e.1) m.entries ((n, x) ∷ [])

  pub pushed_keys : keys_of (insert_entry (λ i j. i == j) m.entries n x)
      ≡ numbers_of (values_of (insert_entry (λ i j. i == j) m.entries n x))
  pushed_keys =
      ap keys_of entries_pushed ∙ map-append (λ e. e.0) m.entries ((n, x) ∷ [])
      ∙ ap (λ (ks : List ℕ). ks ++ n ∷ []) same ∙ ap (λ (k : ℕ). numbers_of (values m) ++ k ∷ []) (sym own)
      ∙ sym (numbers_push (values m) x) ∙ ap numbers_of (sym pushed)

-- the client at an index
module _ {S : Type 0} (i : ℕ) (m : IndexMap ℕ Client S) (old x : Client) (is : slice_get (values m) i ≡ Some old) where
  got : old ≡ get_or (values m) i old
  got = sym (get_or_from_slice_get (values m) i old old is)

  -- stays where it is left
  pub left : x ≡ old → values (with_value_at m i x) ≡ values m
  left same =
      values_at m.entries i x ∙ ap (set (values m) i) same ∙ put_back (values m) i old got

  -- keeps its number
  pub keys_kept : keys m ≡ numbers_of (values m) → x.number ≡ old.number
      → keys (with_value_at m i x) ≡ numbers_of (values (with_value_at m i x))
  keys_kept same kept =
      keys-with_value_at m i x ∙ same ∙ sym (numbers_set (values m) i x old (kept ∙ ap (λ (c : Client). c.number) got))
      ∙ ap numbers_of (sym (values_at m.entries i x))

  module _ (before n : ℕ) (at : StandsAt (values m) n i) (terms : Terms) where
    -- may ask what may be asked by its number
    pub may_at : (principal : Principal) (ask : Ask) → IsOk (asks_of terms n (client_at (values m) n) principal ask)
        → IsOk (asks_of terms old.number old principal ask)
    may_at principal ask h = may_there n i (values m) old terms principal ask at got h

    -- asks, where memory suffices
    asked_at : (principal : Principal) (ask : Ask) (sent : List Message) (outs : List Out) → x.number ≡ old.number
        → IsOkAnd (asks_of terms old.number old principal ask) (λ change. IsChangedBy before old change x sent outs)
        → IsOkAnd (asks_of terms n (client_at (values m) n) principal ask)
        (λ change. AreChangedBy before (values m) change (values (with_value_at m i x)) sent outs)
    asked_at principal ask sent outs kept h =
        subst (λ (cs : List Client). IsOkAnd (asks_of terms n (client_at (values m) n) principal ask)
        (λ change. AreChangedBy before (values m) change cs sent outs)) (sym (values_at m.entries i x))
        (asked before n i (values m) old x at got kept terms principal ask sent outs h)

    pub asked_if : (principal : Principal) (ask : Ask) {Given : Type 0} (r : Result Given Refusal) (sent : Given → List Message)
        (outs : Given → List Out) → x.number ≡ old.number
        → IfOk r (λ given. IsOkAnd (asks_of terms old.number old principal ask)
        (λ change. IsChangedBy before old change x (sent given) (outs given)))
        → IfOk r (λ given. IsOkAnd (asks_of terms n (client_at (values m) n) principal ask)
        (λ change. AreChangedBy before (values m) change (values (with_value_at m i x)) (sent given) (outs given)))
    asked_if principal ask (Ok given) sent outs kept h = asked_at principal ask (sent given) (outs given) kept h
    asked_if principal ask (Err e) sent outs kept h = h

    -- takes a message
    pub taken_at : (message : Message) (sent : List Message) (outs : List Out) → x.number ≡ old.number
        → IsChangedBy before old (takes_of terms old.number old message) x sent outs
        → AreChangedBy before (values m) (takes_of terms n (client_at (values m) n) message) (values (with_value_at m i x)) sent outs
    taken_at message sent outs kept h =
        subst (λ (cs : List Client). AreChangedBy before (values m) (takes_of terms n (client_at (values m) n) message) cs sent outs)
        (sym (values_at m.entries i x)) (taken before n i (values m) old x at got kept terms message sent outs h)

-- ---- what the proof of each call rests on

-- a client asks
pub ruleset asking = (may_at, new_client, keys_kept, left)

-- a client takes a message
pub ruleset taking = (taken_at, new_takes_nothing, keys_kept, left)

-- from an index on, the greatest counter is the client's there, or a later one's
pub highest_next : (clients : List Client) (i : ℕ) (client : Client) → slice_get clients i ≡ Some client
    → highest_counter (drop i clients) ≡ max client.clock.counter (highest_counter (drop (i + 1) clients))
highest_next clients i client e =
    ap highest_counter (drop_more clients i client (slice_get_within clients i client e))
    ∙ ap (λ (z : Client). max z.clock.counter (highest_counter (drop (i + 1) clients)))
    (get_or_from_slice_get clients i client client e)

-- the greatest of three: once the greater of the first two is taken, the rest is left
pub max_passed : (high counter rest whole next : ℕ) → max high (max counter rest) ≡ whole → high < counter → next ≡ counter
    → max next rest ≡ whole
max_passed high counter rest whole next is above taken = omega (arith, is, above, taken)

pub max_kept : (high counter rest whole next : ℕ) → max high (max counter rest) ≡ whole → counter ≤ high → next ≡ high
    → max next rest ≡ whole
max_kept high counter rest whole next is below kept = omega (arith, is, below, kept)
