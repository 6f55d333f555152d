-- What a partition's reply is. RepeatLemmas of `album_channels` cites these, and RoundLemmas of `album_grounds`.
use Rattle.std.proofs.Common.{◌≡◌, ℕ, Bool, true, false, List, Option, Some, None, option_map, refl, sym, ap, ◌∙◌, subst, if◌then◌else◌}
use Rattle.album_items.specs.Places.{is_placed}
use Rattle.album_calls.specs.Nodes.{is_part}
use Rattle.album_calls.specs.declared.messages.Body.{Body}
use Rattle.album_calls.specs.declared.messages.Body.TheVariants as body
use Rattle.album_calls.specs.declared.messages.Message.{Message}
use Rattle.album_calls.specs.declared.replies.Reply.{Reply}
use Rattle.album_calls.specs.declared.replies.Reply.TheVariants as reply
use Rattle.album_calls.specs.declared.requests.Request.TheVariants.{Get}
use Rattle.album_partition.specs.Answers.{says, nothing, get_by, on_body, action_of, answer, reply_to}
use Rattle.album_partition.specs.Partition.{PartitionState, read_at}

-- a Get makes no mark
pub get_marks_nothing : (p : PartitionState) (m : Message) (i : ℕ) (ts : List ℕ) → m.body ≡ body.Request (Get i ts) → (action_of p m).mark ≡ None
get_marks_nothing p m i ts e = by (is_part m.to p.number)
  where
    read : (o : Option ℕ) → (get_by p i o).mark ≡ None
    read None = refl
    read (Some t) = refl

    placed : (b : Bool) → (if b then get_by p i (read_at p.marks i ts) else says reply.Clash).mark ≡ None
    placed true = read (read_at p.marks i ts)
    placed false = refl

    by : (b : Bool) → (if b then on_body p m.from m.body else nothing).mark ≡ None
    by true = subst (λ (x : Body). (on_body p m.from x).mark ≡ None) (sym e) (placed (is_placed p.number p.parts i))
    by false = refl

-- what a partition has answered is its reply
answered_so : (p : PartitionState) (q m : Message) → answer p q ≡ Some m → (o : Reply) × ((action_of p q).reply ≡ Some o) × (m ≡ reply_to p q o)
answered_so p q m f = go (action_of p q).reply refl f
  where
    go : (o : Option Reply) → (action_of p q).reply ≡ o → option_map (reply_to p q) o ≡ Some m → (o : Reply) × ((action_of p q).reply ≡ Some o) × (m ≡ reply_to p q o)
    go None g h = absurd (cc)
    go (Some o) g h = (o, g, cc)

-- and that is the reply in the message
pub replied_so : (p : PartitionState) (q m : Message) (o : Reply) → answer p q ≡ Some m → m.body ≡ body.Reply o → (action_of p q).reply ≡ Some o
replied_so p q m o f told =
    let said = answered_so p q m f in
    said.1 ∙ ap Some (same_reply said.0 o (sym (ap (λ (n : Message). n.body) said.2) ∙ told))
  where
    same_reply : (o r : Reply) → body.Reply o ≡ body.Reply r → o ≡ r
    same_reply o r e = cc
