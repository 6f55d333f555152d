-- What a reply that counts is for its round. `PartitionChannel` cites these.
use Rattle.std.proofs.Common.{◌≡◌, ℕ, false, List, get_or, Contains, sym, ap, ◌∙◌, subst}
use Rattle.std.proofs.lemmas.List.Elements.{Contains-get_or}
use Rattle.album_calls.specs.declared.messages.Message.{Message}
use Rattle.album_passes.specs.Cuts.{Cut, Extends}
use Rattle.album_passes.specs.Pass.{PassState}
use Rattle.album_keepers.specs.Envelopes.{IsAnswered, IsSettledBelow, IsUpToDate}
use Rattle.album_keepers.specs.Replies.{IsCurrent, IsLate, IsReplied}
use Rattle.album_keepers.specs.Rounds.{RoundReplyState, Counts}

-- a reply that counts, and its pass
module _ (limit : ℕ) (old : Cut) (sent : List Message) (r : RoundReplyState) (reply : Message) (pass : PassState)
    (h : Counts limit old sent r) (said : reply ≡ r.reply) (shown : pass ≡ r.pass) where
  -- it replies to a message of the round
  pub counted_replied : (new : Cut) → Extends pass.cut new → IsCurrent old new reply → IsReplied limit old new sent reply
  counted_replied new seen current = record {
    request = h.request;
    own = own;
    heard = r.pass.cut;
    seen = subst (λ (p : PassState). Extends p.cut new) shown seen;
    answered = subst (IsAnswered limit r.pass.cut h.request) (sym said) h.replies.answered;
    late = subst (IsLate old r.pass.cut) (sym said) h.late;
    current = current;
  }
    where
      own : Contains sent h.request
      own = subst (Contains sent) (h.at.is h.request) (Contains-get_or sent r.index h.request h.at.within)

  -- where it isn't overtaken, it is new enough
  pub counted_current : (new : Cut) → Extends pass.cut new → r.overtaken ≡ false → IsCurrent old new reply
  counted_current new seen none = subst (IsCurrent old new) (sym said) (record {
    at = r.pass.cut;
    seen = subst (λ (p : PassState). Extends p.cut new) shown seen;
    sound = h.replies.sound;
    late = h.late;
    is = h.replies.latest none;
  })

  -- what it shows of the message at its index
  pub counted_answered : (index : ℕ) (message : Message) → index ≡ r.index → message ≡ get_or sent index message
      → IsAnswered limit pass.cut message reply
  counted_answered index message at is =
      let same : h.request ≡ message = sym (is ∙ ap (λ (n : ℕ). get_or sent n message) at ∙ h.at.is message) in
      subst (λ (z : Message × Message × PassState). IsAnswered limit z.2.cut z.0 z.1) (λ i. (same i, sym said i, sym shown i))
      h.replies.answered

  pub counted_latest : r.overtaken ≡ false → IsUpToDate pass.cut reply
  counted_latest none = subst (λ (z : Message × PassState). IsUpToDate z.1.cut z.0) (λ i. (sym said i, sym shown i)) (h.replies.latest none)

  pub counted_settled : (below : ℕ) → below ≡ r.settled_below → IsSettledBelow below pass.cut reply
  counted_settled below is =
      subst (λ (z : ℕ × Message × PassState). IsSettledBelow z.0 z.2.cut z.1) (λ i. (sym is i, sym said i, sym shown i)) h.replies.settled
