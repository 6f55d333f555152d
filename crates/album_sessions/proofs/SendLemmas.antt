-- What is announced before messages are sent: a whole write before its Prepares (`prepares_announce`), and nothing before
-- others (`gets_plain`, `commits_plain`).
use Rattle.std.proofs.Common.{◌≡◌, ◌≢◌, ℕ, Bool, List, [], ◌∷◌, map, Some, None, if◌then◌else◌, refl, sym, ap}
use Rattle.std.proofs.lemmas.Bool.{eq-eqb, ne_eqb}
use Rattle.album_calls.specs.declared.messages.Message.{Message}
use Rattle.album_passes.specs.Changes.{lengths_in, announced_cut}
use Rattle.album_passes.specs.Cuts.{Cut, Announced, announced_for, dependencies_of}
use Rattle.album_client.specs.PendingAsks.{PendingAsk}
use Rattle.album_client.specs.declared.clients.Phase.TheVariants as phase
use Rattle.album_reader.specs.Rounds.{RoundState}
use Rattle.album_channels.specs.Sending.{sent_last, sent_at}
use Rattle.album_grounds.specs.Writes.{announcement_of}
use Rattle.album_sessions.specs.Sending.{to_announce}
use Rattle.album_writer.specs.Writing.{WritingState, places_in, prepare_to, prepares_of, commit_to, commits_of}

-- ---- what messages prepare

-- messages of a read are announced by nothing, nor are Commits
pub gets_plain : (messages : List Message) (pending_ask : PendingAsk) (round : RoundState) → to_announce messages (phase.Reads pending_ask round) ≡ None
gets_plain [] a r = refl
gets_plain (m ∷ ms) a r = refl

pub commits_plain : (messages : List Message) (w : WritingState) → to_announce messages (phase.Commits w) ≡ None
commits_plain [] w = refl
commits_plain (m ∷ ms) w = refl

-- a write's Prepares are
pub prepares_announce : (messages : List Message) (w : WritingState) → (messages ≡ [] → ⊥) → to_announce messages (phase.Prepares w) ≡ Some (announcement_of w)
prepares_announce [] w some = absurd (some refl)
prepares_announce (m ∷ ms) w some = refl

some_map : (f : ℕ → Message) (ns : List ℕ) → ns ≢ [] → map f ns ≡ [] → ⊥
some_map f [] h e = h refl
some_map f (n ∷ ns) h e = absurd (cc)

pub some_prepares : (w : WritingState) → places_in w ≢ [] → prepares_of w ≡ [] → ⊥
some_prepares w some = some_map (prepare_to w) (places_in w) some

pub some_commits : (w : WritingState) → places_in w ≢ [] → commits_of w ≡ [] → ⊥
some_commits w some = some_map (commit_to w) (places_in w) some

-- ---- what is outstanding

-- where messages are sent, replies to them are outstanding
pub last_sent : (before sent : List Message) → (sent ≡ [] → ⊥) → sent_last before sent ≡ sent
last_sent before [] some = absurd (some refl)
last_sent before (m ∷ ms) some = refl

pub last_at : (b c : Cut) (sent : List Message) → (sent ≡ [] → ⊥) → sent_at b c sent ≡ c
last_at b c [] some = absurd (some refl)
last_at b c (m ∷ ms) some = refl

-- ---- what is announced

-- another stamp is announced as it was
pub announced_else : (c : Cut) (t u : ℕ) (is : Announced) → u ≢ t → announced_for (announced_cut c t is) u ≡ announced_for c u
announced_else c t u is other =
    ap (λ (b : Bool). if b then Some is else announced_for c u) (ne_eqb t u (λ e. other (sym e)))

pub announced_here : (c : Cut) (t : ℕ) (is : Announced) → announced_for (announced_cut c t is) t ≡ Some is
announced_here c t is = ap (λ (b : Bool). if b then Some is else announced_for c t) (eq-eqb t t refl)

-- and it depends on all that the cut has
pub depended_here : (c : Cut) (t : ℕ) (is : Announced) → dependencies_of (announced_cut c t is) t ≡ Some (lengths_in c)
depended_here c t is = ap (λ (b : Bool). if b then Some (lengths_in c) else dependencies_of c t) (eq-eqb t t refl)
