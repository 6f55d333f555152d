-- A round of Prepares is ready as it begins (`begun-ready`, for `begin`) and after an answer that is not the last one
-- (`some_ready`), after which it waits (`some_prepared`): for `take`.
use Rattle.std.proofs.Common.{◌≡◌, ◌≢◌, ℕ, ◌==◌, ◌+◌, ◌<◌, ◌≤◌, ◌^◌, Bool, length, true, false, List, [], ◌∷◌, refl, sym, ap, subst, ◌∙◌}
use Rattle.album_calls.specs.declared.messages.Message.{Message}
use Rattle.album_calls.specs.declared.nodes.Node.{Node}
use Rattle.album_items.specs.Transactions.{items_written, are_items}
use Rattle.album_permits.specs.Effects.{effect_of}
use Rattle.album_permits.specs.Permits.{PermitState}
use Rattle.album_writer.proofs.Placing.{some-place}
use Rattle.album_writer.specs.declared.write_replies.WriteReply.{WriteReply}
use Rattle.album_writer.specs.declared.write_replies.WriteReply.TheVariants as write_reply
use Rattle.album_writer.specs.Ready.{IsReady}
use Rattle.album_writer.specs.Rounds.{answered_by, prepares_left, prepares_by, prepare_stepped}
use Rattle.album_writer.specs.Rounds.WriteStep.{Waits}
use Rattle.album_writer.specs.WriteReplies.{reply_in}
use Rattle.album_writer.specs.Writing.{WritingState, places_in, prepare_round, commit_round, commits_of}

some_left : (ns : List ℕ) → (length ns == 0) ≡ false → ns ≢ []
some_left [] h = absurd (cc)
some_left (n ∷ ns) h = λ e. absurd (cc)

module _
    (x next : WritingState) (m : Message) (what : WriteReply) (is : what ≡ reply_in x m)
    (answered : next ≡ answered_by x m.from)
  where
    still : {b : Bool} → (length next.outstanding == 0) ≡ b → (length (answered_by x m.from).outstanding == 0) ≡ b
    still h = ap (λ (z : WritingState). length z.outstanding == 0) (sym answered) ∙ h

    pub some_prepared : what ≡ write_reply.Prepared → (length next.outstanding == 0) ≡ false → Waits next ≡ prepare_stepped x m
    some_prepared e h =
        ap Waits answered
        ∙ go (answered_by x m.from).outstanding (still h)
        ∙ ap (prepares_by x m.from) (sym e ∙ is)
      where
        go :
            (ns : List ℕ) → (length ns == 0) ≡ false
            → Waits (answered_by x m.from) ≡ prepares_left (answered_by x m.from) ns
        go [] k = absurd (cc)
        go (n ∷ ns) k = refl

-- a round that is not over is ready as it was
pub some_ready :
    (x next : WritingState) (node : Node) (commits : List Message) (later : List ℕ) → IsReady x commits later
    → next ≡ answered_by x node → (length next.outstanding == 0) ≡ false → IsReady next commits later
some_ready x next node commits later ready answered h =
    subst (λ (z : WritingState). IsReady z commits later) (sym answered) (record {
      outstanding =
          some_left (answered_by x node).outstanding
          (ap (λ (z : WritingState). length z.outstanding == 0) (sym answered) ∙ h);
      sent = ready.sent;
      next = ready.next;
      tag = ready.tag;
    })

-- a round that begins is ready
pub begun-ready :
    (checked : Bool) (permit : PermitState) (stamp client tag parts : ℕ)
    (x : WritingState) (commits : List Message) (later : List ℕ)
    → 1 ≤ parts → tag + 1 < 2 ^ 64 → are_items (items_written (effect_of permit stamp)) ≡ true
    → x ≡ prepare_round checked permit stamp client tag parts → commits ≡ commits_of (commit_round x) → later ≡ places_in x
    → IsReady x commits later
begun-ready checked permit stamp client tag parts x commits later low high items is sent next = record {
  outstanding = λ none.
      some-place parts (items_written (effect_of permit stamp)) low items
      (sym (ap (λ (z : WritingState). z.outstanding) is) ∙ none);
  sent = sent;
  next = next;
  tag = subst (λ (z : WritingState). z.tag + 1 < 2 ^ 64) (sym is) high;
}
