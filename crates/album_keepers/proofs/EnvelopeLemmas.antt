-- What a reply shows that is passed to another partition, and that what is shown stays so.
-- `ReplyEnvelope::into_envelope` cites `answer_shows`, and `PartitionKeeper::receive` cites `shows_more`.
use Rattle.std.proofs.Common.{◌≡◌, ℕ, Bool, true, false, List, get_or, refl, sym, subst}
use Rattle.album_calls.specs.declared.messages.Body.{Body}
use Rattle.album_calls.specs.declared.messages.Body.TheVariants as body
use Rattle.album_calls.specs.declared.messages.Message.{Message}
use Rattle.album_calls.specs.declared.nodes.Node.{Node}
use Rattle.album_calls.specs.declared.nodes.Node.TheVariants.{Part, Client}
use Rattle.album_calls.specs.declared.nodes.Vote.{Vote}
use Rattle.album_calls.specs.declared.nodes.Vote.TheVariants as vote
use Rattle.album_calls.specs.declared.requests.Request.{Request}
use Rattle.album_calls.specs.declared.requests.Request.TheVariants.{Prepare, PrepareOn, Commit, Get, Check}
use Rattle.album_calls.specs.declared.replies.Reply.{Reply}
use Rattle.album_calls.specs.declared.replies.Reply.TheVariants as reply
use Rattle.album_terminate.specs.declared.deciding.StampState.TheVariants as state
use Rattle.album_partition.specs.Laws.{IsTrueOf}
use Rattle.album_partition.specs.Marks.{state_by, prepares, commits}
use Rattle.album_partition.specs.declared.marks.Mark.{Mark}
use Rattle.album_partition.specs.declared.marks.Mark.TheVariants.{Committed}
use Rattle.album_partition.proofs.LawLemmas.{replies_are_true, to_the_sender}
use Rattle.album_partition.proofs.StateLemmas.{pending_tells, committed_tells}
use Rattle.album_passes.specs.Cuts.{Cut, prefix_at, Extends}
use Rattle.album_passes.proofs.CutLemmas.{items_more, named_more, backed_more}
use Rattle.album_passes.proofs.PrefixLemmas.{any_more}
use Rattle.album_items.specs.Places.{lies_at}
use Rattle.album_keepers.specs.Envelopes.{is_mark_for, ShowsVote, ShowsCheck, ShowsRequest, ShowsReply, ShowsBody, Shows, IsAnswered}

pub discarded_tells : (a b c : Bool) → state_by a b c ≡ state.Discarded → b ≡ true
discarded_tells true b c e = absurd (cc (e))
discarded_tells false true c e = refl
discarded_tells false false true e = absurd (cc (e))
discarded_tells false false false e = absurd (cc (e))

-- a reply that is true of the partition's marks shows what it has to
shows_reply : (c : Cut) (p : ℕ) (r : Reply) → IsTrueOf (prefix_at c p) r → ShowsReply c (Part p) r
shows_reply c p (reply.Status t vote.Prepared) h = (pending_tells _ _ _ h).2
shows_reply c p (reply.Status t vote.Committed) h = committed_tells _ _ _ h
shows_reply c p (reply.Status t vote.Never) h = discarded_tells _ _ _ h
shows_reply c p (reply.Prepared t) h = tt
shows_reply c p (reply.Committed t) h = tt
shows_reply c p (reply.Discarded t) h = tt
shows_reply c p (reply.Version i t v) h = tt
shows_reply c p (reply.NotPrepared t) h = tt
shows_reply c p reply.Clash h = tt
shows_reply c p (reply.Full t) h = tt
shows_reply c p (reply.Gone i) h = tt

pub answer_shows : (limit : ℕ) (c : Cut) (request told : Message) → IsAnswered limit c request told → Shows c told
answer_shows limit c request told a =
    let p = a.partition in
    let r = replies_are_true p request told a.answered in
    let from = (to_the_sender p request told a.answered).sender in
    let so = subst (λ (ms : List Mark). IsTrueOf ms r.0) a.shown.marks r.2 in
    let here = subst (λ (n : Node). ShowsReply c n r.0) (sym from) (shows_reply c p.number r.0 so) in
    subst (λ (b : Body). ShowsBody c told.from told.to b) (sym r.1) here

-- ---- as the cut grows

more_vote : (c d : Cut) → Extends c d → (n : Node) (t : ℕ) (v : Vote) → ShowsVote c n t v → ShowsVote d n t v
more_vote c d x (Part p) t v h = any_more (is_mark_for v t) (prefix_at c p) (prefix_at d p) (x.prefixes p) h
more_vote c d x (Client k) t v h = absurd h

more_check : (c d : Cut) → Extends c d → (n : Node) (t : ℕ) → ShowsCheck c n t → ShowsCheck d n t
more_check c d x (Part p) t h = record {
  at = h.at;
  prepared = any_more (prepares t) (prefix_at c h.at) (prefix_at d h.at) (x.prefixes h.at) h.prepared;
  items = h.items;
  announced = items_more c d x t h.items h.announced;
  placed = subst (λ (n : ℕ). lies_at p n h.items ≡ true) (sym x.parts) h.placed;
}
more_check c d x (Client k) t h = tt

more_request : (c d : Cut) → Extends c d → (n : Node) (r : Request) → ShowsRequest c n r → ShowsRequest d n r
more_request c d x n (Prepare t ws is) h = named_more c d x t ws is h
more_request c d x n (PrepareOn t ws is bs) h = record {
  named = record {
    all = h.named.all;
    announced = x.announced t h.named.all h.named.announced;
    items_are = h.named.items_are;
    within = h.named.within;
  };
  based = h.based;
}
more_request c d x n (Commit t) h = backed_more c d x (Committed t) h
more_request c d x n (Get i ts) h = λ k e l nz. let was = h k e l nz in
    (was.0, any_more (commits (get_or ts k e)) (prefix_at c was.0) (prefix_at d was.0) (x.prefixes was.0) was.1)
more_request c d x n (Check t) h = more_check c d x n t h

more_reply : (c d : Cut) → Extends c d → (n : Node) (r : Reply) → ShowsReply c n r → ShowsReply d n r
more_reply c d x n (reply.Status t v) h = more_vote c d x n t v h
more_reply c d x n (reply.Prepared t) h = tt
more_reply c d x n (reply.Committed t) h = tt
more_reply c d x n (reply.Discarded t) h = tt
more_reply c d x n (reply.Version i t v) h = tt
more_reply c d x n (reply.NotPrepared t) h = tt
more_reply c d x n reply.Clash h = tt
more_reply c d x n (reply.Full t) h = tt
more_reply c d x n (reply.Gone i) h = tt

more_body : (c d : Cut) → Extends c d → (from to : Node) (b : Body) → ShowsBody c from to b → ShowsBody d from to b
more_body c d x from to (body.Request r) h = more_request c d x to r h
more_body c d x from to (body.Reply r) h = more_reply c d x from r h

-- what a cut shows about a message, a cut that extends it shows too
pub shows_more : (c d : Cut) → Extends c d → (m : Message) → Shows c m → Shows d m
shows_more c d x m h = more_body c d x m.from m.to m.body h
