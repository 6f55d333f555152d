-- Answers are to requests, of every run, for the law and for `World`.
use Rattle.std.proofs.Common.{◌≡◌, ℕ, zero, suc, ◌<◌, Bool, true, false, length, List, [], ◌∷◌, sym, subst, refl, arith}
use Rattle.std.specs.List.{list_any, slice_index_or, AllPairs}
use Rattle.album_items.specs.ItemIds.{place_of}
use Rattle.album_items.specs.Openings.{is_base_opening}
use Rattle.album_items.specs.declared.openings.Opening.{Opening}
use Rattle.album_partition.specs.Marks.{commits, discards}
use Rattle.album_partition.specs.Partition.{PartitionState}
use Rattle.album_partition.specs.declared.marks.Mark.{Mark}
use Rattle.album_reader.specs.Answers.{ReadVersion}
use Rattle.album_reader.specs.Atomic.{IsFreshFrom}
use Rattle.album_client.specs.Terms.{Terms, terms_of}
use Rattle.album_permits.specs.declared.events.Event.{Event}
use Rattle.album_world.specs.State.{history_in}
use Rattle.album_world.specs.Past.{World, Asked, Read}
use Rattle.album_world.specs.Committing.{history, IsCommittedAt}
use Rattle.album_world.specs.Atomic.{writes_in_world}
use Rattle.album_world.specs.Fresh.{IsCommittedFor, ViewsAreFresh}
use Rattle.album_world.specs.Requests.{AreAtOrAfter, AnswersAreToRequests, IsReadFor, IsServedAlone}
use Rattle.album_world.specs.Runs.{run_of}
use Rattle.album_world.proofs.ListLemmas.{In, contains, within, any_more}
use Rattle.album_world.proofs.ListLemmas.In.{here, there}
use Rattle.album_world.proofs.Invariant.{IsKept}
use Rattle.album_world.proofs.SafeLemmas.{not_both}
use Rattle.album_world.proofs.RunLemmas.{always_kept}
use Rattle.album_world.proofs.RequestLemmas.{IsReadOf, IsAlone, AreInTurn}
use Rattle.album_world.proofs.AskedLemmas.{always_requested}
use Rattle.album_world.proofs.PromiseLemmas.{views_are_fresh}

-- what is fresh from later partitions is fresh from earlier ones
fresh_before : (t : Terms) (w : World) (later earlier : List PartitionState) (rows : List ReadVersion)
    → AreAtOrAfter later earlier → IsFreshFrom (writes_in_world w) (IsCommittedFor t later) rows
    → IsFreshFrom (writes_in_world w) (IsCommittedFor t earlier) rows
fresh_before t w later earlier rows after fresh row l past wrote committed =
    let p = place_of t.parts row.item in
    fresh row l past wrote
    (subst (λ (z : List Mark). list_any (commits past.by.stamp) z ≡ true) (sym (after p).1)
    (any_more (commits past.by.stamp) (history_in earlier p) (after p).0 committed))

read_for : (t : Terms) (w : World) → ViewsAreFresh t w → (a : Asked) (f : Read) → IsReadOf w a f → IsReadFor t w a f
read_for t w fresh a f h = record {
  made = contains h.made;
  own = h.own;
  ask = h.ask;
  principal = h.principal;
  later = h.later;
  fresh = λ rows e. fresh_before t w f.begun.partitions a.partitions rows h.later (fresh f rows (contains h.made) e);
}

served_alone : (t : Terms) (w : World) → ViewsAreFresh t w → (a : Asked) → IsAlone w a → IsServedAlone t w a
served_alone t w fresh a h = record {
  reads = λ f l. read_for t w fresh a f (h.reads f (within _ l));
  writes = λ r l. let d = h.writes r (within _ l) in
      record { begun = contains d.begun; own = d.own; ask = d.ask; principal = d.principal };
  one_write = h.one_write;
  one_answer = h.one_answer;
  answered = λ x l. let d = h.answers x (within _ l) in
      record { kept = contains d.given; last = d.last; begun = d.begun };
}

got : (xs : List Asked) (j : ℕ) (d : Asked) → j < length xs → In (slice_index_or xs j d) xs
got [] j d l = absurd (omega arith)
got (a ∷ xs) zero d l = here
got (a ∷ xs) (suc j) d l = there (got xs j d (omega arith))

in_turn : (xs : List Asked) → AreInTurn xs
    → AllPairs (λ (later earlier : Asked). later.client ≡ earlier.client → length earlier.answers ≡ 1) xs
in_turn [] h i j d lt l = absurd (omega arith)
in_turn (a ∷ xs) h i zero d lt l = absurd (omega arith)
in_turn (a ∷ xs) h zero (suc j) d lt l = h.0 (slice_index_or xs j d) (got xs j d (omega arith))
in_turn (a ∷ xs) h (suc i) (suc j) d lt l = in_turn xs h.1 i j d (omega arith) (omega arith)

pub answers_are_to_requests : (o : Opening) (es : List Event) → is_base_opening o ≡ true
    → AnswersAreToRequests (terms_of o) (run_of o es)
answers_are_to_requests o es is =
    let q = always_requested o es is in
    let w = run_of o es in
    let fresh = views_are_fresh o es is in
    record {
      alone = λ a l. served_alone (terms_of o) w fresh a (q.alone a (within _ l));
      answers = λ x l. let d = q.given x (within _ l) in
          record { asked = d.asked; made = contains d.made; answers = contains d.answers; is = d.is };
      begun = λ r l. let d = q.begun r (within _ l) in
          record { asked = d.asked; made = contains d.made; writes = contains d.writes };
      in_turn = in_turn w.past.asked q.turns;
    }

pub never_discarded : (o : Opening) (es : List Event) (t p r : ℕ) → is_base_opening o ≡ true
    → IsCommittedAt (run_of o es) t p → list_any (discards t) (history (run_of o es) r) ≡ false
never_discarded o es t p r is c =
    let k = always_kept o es is in
    go k (list_any (discards t) (history (run_of o es) r)) refl
  where
    go : IsKept o (run_of o es) → (b : Bool) → list_any (discards t) (history (run_of o es) r) ≡ b → b ≡ false
    go k true e = absurd (not_both o (run_of o es) k t p ((k.sound r).discarded t e) c)
    go k false e = refl
