-- A talk: what the lines of a connection are answered, in a session.
use Rattle.std.specs.Prelude.{◌≡◌, ◌≢◌, ◌⊎◌, ◌≤◌, ℕ, ◌+◌, false, List, [], ◌∷◌, ◌++◌, length, MatchBool, Option, Some, None, Result, Ok, Err}
use Rattle.album_stamps.specs.declared.refusals.Refusal.{Refusal}
use Rattle.album_stamps.specs.Outcome.{◌>>=◌}
use Rattle.album_stamps.specs.declared.refusals.Refusal.TheVariants.{OutOfMemory, BadLine, NoSuchPart, NotPrepared}
use Rattle.album_items.specs.FirstStamps.{Stamps}
use Rattle.album_items.specs.declared.openings.Opening.{Opening}
use Rattle.album_terminate.specs.declared.deciding.StampState.TheVariants as state
use Rattle.album_partition.specs.Marks.{ArePending, state_of, latest, floor}
use Rattle.album_eval.specs.Matching.{acting}
use Rattle.album_eval.specs.declared.facts.Principal.{Principal}
use Rattle.album_eval.specs.declared.policies.Policy.{Policy}
use Rattle.album_views.specs.Checks.{refusal_of}
use Rattle.album_views.specs.declared.asks.Ask.{Ask}
use Rattle.album_permits.specs.declared.answers.Answer.{Answer}
use Rattle.album_passes.specs.Cuts.{Cut, prefix_at}
use Rattle.album_sessions.specs.Asks.{IsOn}
use Rattle.album_keepers.specs.Controls.{IsUntrimmed}
use Rattle.album_sessions.specs.Attempts.{RestsOnLast}
use Rattle.album_channels.specs.Channels.{IsClosedOrOutOfMemory}
use Rattle.album_sessions.specs.Sessions.{SessionState, AddsNothing}
use Rattle.album_lines.specs.Lines.{Line, is_blank}
use Rattle.album_lines.specs.Output.{line_text, refusal_line}
use Rattle.album_wire.specs.OutJson.{answer_json}
use Rattle.album_wire.specs.ShownStamps.{answer_shown}
use Rattle.album_wire.specs.TalkJson.{pending_json, talk_text}
use Rattle.album_wire.specs.declared.talk_json.TalkOut.{TalkOut}
use Rattle.album_wire.specs.declared.talk_json.TalkOut.TheVariants as says
use Rattle.album_wire.specs.TalkLine.{hello_line_of, talk_line_of}
use Rattle.album_wire.specs.declared.talk_line.TalkLine.{TalkLine}
use Rattle.album_wire.specs.declared.talk_line.TalkLine.TheVariants as line
use Rattle.album_wire.specs.WholeOpening.{text_of_opening}
use Rattle.album_turns.specs.Left.{IsFoundBy, IsUnleft}
use Rattle.album_talk.specs.Admins.{permitted}
use Rattle.album_talk.specs.Endings.{ending_of}
use Rattle.album_talk.specs.declared.endings.Ending.{Ending}
use Rattle.album_talk.specs.declared.admins.Admins.{Admins}
use Rattle.album_talk.specs.declared.epoch.Epoch.{Epoch}
use Rattle.album_judge.specs.Writes.{IsPrefixOf}

-- ---- by what it goes

-- who may send more than asks, and the epoch
pub record Rules : Type 0 where
  pub admins : Admins
  pub epoch : Epoch

abbrev pub rules_of : Admins → Epoch → Rules
rules_of admins epoch = record { admins = admins; epoch = epoch }

-- an epoch of which nothing is known
abbrev pub unknown_epoch : Epoch
unknown_epoch = record {
  opening = record {
    parts = 0;
    limit = 0;
    policy = 0;
    checked = false;
    root = None;
    first = 0;
    items = [];
    stamps = [];
  };
  number = None;
}

-- ---- what a session answers to a line

-- of an ask: the answer, on what it rests; or it is refused by its check, or no reply comes, and then nothing was
-- noted, drawn or announced
abbrev pub AnswersAsk : ℕ → Policy → Principal → Ask → SessionState → SessionState → Result Answer Refusal → Type 0
AnswersAsk limit policy who ask old new (Ok answer) = RestsOnLast limit policy who ask old new answer
AnswersAsk limit policy who ask old new (Err why) =
    ((refusal_of ask who ≡ Some why) ⊎ IsClosedOrOutOfMemory why) × AddsNothing old new

-- there is no partition of this number
pub record IsNowhere (session : SessionState) (part : ℕ) (why : Refusal) : Type 0 where
  pub is : why ≡ NoSuchPart
  pub past : session.cut.parts ≤ part

-- the stamps that are pending at a partition
abbrev pub AnswersPending : ℕ → SessionState → SessionState → Result (List ℕ) Refusal → Type 0
AnswersPending part old new (Ok stamps) = ArePending (prefix_at new.cut part) stamps
AnswersPending part old new (Err why) = IsNowhere old part why ⊎ IsClosedOrOutOfMemory why

-- the stamp is not pending there
pub record IsUnprepared (session : SessionState) (part stamp : ℕ) (why : Refusal) : Type 0 where
  pub is : why ≡ NotPrepared
  pub other : state_of (prefix_at session.cut part) stamp ≢ state.Pending

-- of a sweep: the stamp is pending at the partition, which asks the others for their votes on it
abbrev pub AnswersSweep : ℕ → ℕ → SessionState → SessionState → Result Unit Refusal → Type 0
AnswersSweep part stamp old new (Ok done) = state_of (prefix_at new.cut part) stamp ≡ state.Pending
AnswersSweep part stamp old new (Err why) =
    IsNowhere old part why ⊎ (IsUnprepared new part stamp why ⊎ IsClosedOrOutOfMemory why)

-- no version of the item is kept at the partition that is below its latest stamp, nor below that which the session knew
pub record IsTrimmed (part item : ℕ) (old new : SessionState) : Type 0 where
  pub latest_kept : floor (prefix_at new.cut part) item ≡ latest (prefix_at new.cut part) item
  pub known : latest (prefix_at old.cut part) item ≤ floor (prefix_at new.cut part) item

abbrev pub AnswersTrim : ℕ → ℕ → ℕ → SessionState → SessionState → Result Unit Refusal → Type 0
AnswersTrim limit part item old new (Ok done) = IsTrimmed part item old new
AnswersTrim limit part item old new (Err why) =
    IsNowhere old part why ⊎ (IsUntrimmed limit new.cut part item why ⊎ IsClosedOrOutOfMemory why)

-- of a dump: what would be left to the next epoch, by a session that has first listened to its service
abbrev pub AnswersDump : Opening → SessionState → SessionState → Result Opening Refusal → Type 0
AnswersDump opening old new (Ok next) = (listened : Cut) × IsFoundBy old.cut opening listened next
AnswersDump opening old new (Err why) = IsUnleft new.cut opening why

-- ---- the text of an answer, or of a refusal

abbrev pub asked_text : Stamps → (client : ℕ) → Result Answer Refusal → List ℕ
asked_text stamps client (Ok answer) = line_text (answer_json client (answer_shown stamps answer))
asked_text stamps client (Err why) = refusal_line why

abbrev pub pending_text : Result (List ℕ) Refusal → List ℕ
pending_text (Ok stamps) = line_text (pending_json stamps)
pending_text (Err why) = refusal_line why

abbrev pub done_text : TalkOut → Result Unit Refusal → List ℕ
done_text said (Ok done) = talk_text said
done_text said (Err why) = refusal_line why

-- the lines of a dump: how many follow, and those of an opening, which has two more than it has items
abbrev pub dumped : Opening → List ℕ
dumped next = talk_text (says.Dump (length next.items + 2)) ++ text_of_opening next

abbrev pub dump_text : Result Opening Refusal → List ℕ
dump_text (Ok next) = dumped next
dump_text (Err why) = refusal_line why

-- ---- what a line is answered, by a session that is so before it and so after it

abbrev pub IsAsked : ℕ → Policy → Stamps → Principal → Ask → SessionState → SessionState → List ℕ → Type 0
IsAsked limit policy stamps who ask old new text =
    (answer : Result Answer Refusal)
    × AnswersAsk limit policy who ask old new answer
    × (text ≡ asked_text stamps old.client answer)

-- for an ask alone something is noted, drawn or announced
abbrev pub IsPendingAnswered : ℕ → SessionState → SessionState → List ℕ → Type 0
IsPendingAnswered part old new text =
    (answer : Result (List ℕ) Refusal)
    × AnswersPending part old new answer
    × (text ≡ pending_text answer)
    × AddsNothing old new

abbrev pub IsSweptFor : ℕ → ℕ → SessionState → SessionState → List ℕ → Type 0
IsSweptFor part stamp old new text =
    (answer : Result Unit Refusal)
    × AnswersSweep part stamp old new answer
    × (text ≡ done_text says.Swept answer)
    × AddsNothing old new

abbrev pub IsTrimmedFor : ℕ → ℕ → ℕ → SessionState → SessionState → List ℕ → Type 0
IsTrimmedFor limit part item old new text =
    (answer : Result Unit Refusal)
    × AnswersTrim limit part item old new answer
    × (text ≡ done_text says.Trimmed answer)
    × AddsNothing old new

abbrev pub IsDumped : Opening → SessionState → SessionState → List ℕ → Type 0
IsDumped opening old new text =
    (answer : Result Opening Refusal)
    × AnswersDump opening old new answer
    × (text ≡ dump_text answer)
    × AddsNothing old new

abbrev pub AnswersTalk : ℕ → Policy → Epoch → Principal → TalkLine → SessionState → SessionState → List ℕ → Type 0
AnswersTalk limit policy epoch who (line.Ask ask) old new text =
    IsAsked limit policy epoch.opening.stamps who ask old new text
AnswersTalk limit policy epoch who (line.Pending part) old new text = IsPendingAnswered part old new text
AnswersTalk limit policy epoch who (line.Sweep part stamp) old new text = IsSweptFor part stamp old new text
AnswersTalk limit policy epoch who line.Dump old new text = IsDumped epoch.opening old new text
AnswersTalk limit policy epoch who (line.Trim part item) old new text = IsTrimmedFor limit part item old new text

-- ---- a line

-- who talks, once that is said, and the session
pub record Talker : Type 0 where
  pub who : Option Principal
  pub session : SessionState

-- it isn't said yet who talks
abbrev pub stranger : SessionState → Talker
stranger session = record { who = None; session = session }

-- the first line, and a later one, which who talks may send; nothing is read of one that is too long
abbrev pub hello_line_read : Line → Result Principal Refusal
hello_line_read None = Err BadLine
hello_line_read (Some bytes) = hello_line_of bytes

abbrev pub talk_line_read : Line → Result TalkLine Refusal
talk_line_read None = Err BadLine
talk_line_read (Some bytes) = talk_line_of bytes

abbrev pub talk_line_heard : Admins → Principal → Line → Result TalkLine Refusal
talk_line_heard admins who line = talk_line_read line >>= permitted admins who

-- what is said to who has said who it is: the client's number, and that of the epoch, where a service tells them apart
abbrev pub hello_out : Option ℕ → ℕ → TalkOut
hello_out None client = says.Hello client
hello_out (Some epoch) client = says.HelloIn client epoch

-- the first line says who talks, and is answered so; the user whom the opening names acts as root
abbrev pub Greets : Epoch → Talker → Result Principal Refusal → Talker → List ℕ → Type 0
Greets epoch old (Ok who) new text =
    (new ≡ record { who = Some (acting epoch.opening.root who); session = old.session })
    × (text ≡ talk_text (hello_out epoch.number old.session.client))
Greets epoch old (Err why) new text = (new ≡ old) × (text ≡ refusal_line why)

-- a later line is answered, and the session has seen more
pub record IsAnswered
    (limit : ℕ) (policy : Policy) (epoch : Epoch) (who : Principal) (said : TalkLine) (old new : Talker) (text : List ℕ)
    : Type 0 where
  pub named : new.who ≡ Some who
  pub on : IsOn old.session new.session
  pub answers : AnswersTalk limit policy epoch who said old.session new.session text

abbrev pub AnswersLater : ℕ → Policy → Epoch → Principal → Talker → Result TalkLine Refusal → Talker → List ℕ → Type 0
AnswersLater limit policy epoch who old (Ok said) new text = IsAnswered limit policy epoch who said old new text
AnswersLater limit policy epoch who old (Err why) new text = (new ≡ old) × (text ≡ refusal_line why)

-- until it is said who talks, a line that doesn't say so is refused
abbrev pub Hears : ℕ → Policy → Rules → Option Principal → Talker → Line → Talker → List ℕ → Type 0
Hears limit policy rules None old line new text = Greets rules.epoch old (hello_line_read line) new text
Hears limit policy rules (Some who) old line new text =
    AnswersLater limit policy rules.epoch who old (talk_line_heard rules.admins who line) new text

-- A blank line is skipped. On another memory may run out; then that is answered, and nothing has happened.
abbrev pub TalksOnce : ℕ → Policy → Rules → Talker → Line → Talker → List ℕ → Type 0
TalksOnce limit policy rules old line new text =
    MatchBool (is_blank line) ((new ≡ old) × (text ≡ []))
    (Hears limit policy rules old.who old line new text ⊎ ((new ≡ old) × (text ≡ refusal_line OutOfMemory)))

-- ---- the whole talk

-- the lines are answered one after another, and this is written
abbrev pub Talks : ℕ → Policy → Rules → Talker → List Line → Talker → List ℕ → Type 0
Talks limit policy rules old [] new text = (new ≡ old) × (text ≡ [])
Talks limit policy rules old (line ∷ lines) new text =
    (between : Talker) × (first : List ℕ) × (others : List ℕ)
    × TalksOnce limit policy rules old line between first
    × Talks limit policy rules between lines new others
    × (text ≡ first ++ others)

-- what may be written of the lines, by talks in which the session saw no more than this one has seen
abbrev pub MayTalk : ℕ → Policy → Rules → SessionState → Talker → List Line → List ℕ → Type 0
MayTalk limit policy rules bound old lines text =
    (new : Talker) × Talks limit policy rules old lines new text × IsOn new.session bound

-- the talk of these lines, in a session that is so before it and so after it
abbrev pub IsTalk : ℕ → Policy → Rules → SessionState → SessionState → List Line → List ℕ → Type 0
IsTalk limit policy rules old new lines text =
    (who : Option Principal) × Talks limit policy rules (stranger old) lines (record { who = who; session = new }) text

-- ---- how a request has ended

-- what a request has ended with, whose answer is this text
abbrev pub EndsAsk : Stamps → (client : ℕ) → Ask → List ℕ → Option Ending → Type 0
EndsAsk stamps client ask text ending =
    (answer : Result Answer Refusal)
    × (text ≡ asked_text stamps client answer)
    × (ending ≡ Some (ending_of ask answer))

-- no other line is a request that ends
abbrev pub EndsSaid : Stamps → (client : ℕ) → Result TalkLine Refusal → List ℕ → Option Ending → Type 0
EndsSaid stamps client (Ok (line.Ask ask)) text ending = EndsAsk stamps client ask text ending
EndsSaid stamps client (Ok (line.Pending part)) text ending = ending ≡ None
EndsSaid stamps client (Ok (line.Sweep part stamp)) text ending = ending ≡ None
EndsSaid stamps client (Ok line.Dump) text ending = ending ≡ None
EndsSaid stamps client (Ok (line.Trim part item)) text ending = ending ≡ None
EndsSaid stamps client (Err why) text ending = ending ≡ None

abbrev pub EndsHeard : Rules → Option Principal → (client : ℕ) → Line → List ℕ → Option Ending → Type 0
EndsHeard rules None client line text ending = ending ≡ None
EndsHeard rules (Some who) client line text ending =
    EndsSaid rules.epoch.opening.stamps client (talk_line_heard rules.admins who line) text ending
    ⊎ ((ending ≡ None) × (text ≡ refusal_line OutOfMemory))

-- what the line of this talker has ended with, whose answer is this text; where memory ran out before it was read,
-- nothing has
abbrev pub Ends : Rules → Talker → Line → List ℕ → Option Ending → Type 0
Ends rules old line text ending =
    MatchBool (is_blank line) (ending ≡ None) (EndsHeard rules old.who old.session.client line text ending)

-- ---- what is recorded before it is answered

-- So much of a text is written. Where any byte of it is, this holds.
abbrev pub IsWrittenIf : List ℕ → Type 0 → List ℕ → Type 0
IsWrittenIf whole Holds text = IsPrefixOf (λ all. all ≡ whole) text × (text ≢ [] → Holds)

-- what is recorded: what a session had noted in a state, and how its request has ended
abbrev pub Records : Type 1
Records = SessionState → Option Ending → Type 0

-- What the session had noted by this text is recorded, and how the request of the line has ended whose answer it is.
abbrev pub IsRecordedBy : Rules → Records → Talker → Line → Talker → List ℕ → Type 0
IsRecordedBy rules Recorded old line new text =
    (ending : Option Ending) × Ends rules old line text ending × Recorded new.session ending

-- A talk of some lines, from the first of these talkers to the other, and its text. For each answer that has a byte,
-- what the session had noted by then is recorded, and how its request has ended.
pub data IsRecordedTalk
    (limit : ℕ) (policy : Policy) (rules : Rules) (Recorded : Records) (old : Talker)
    : Talker → List ℕ → Type 0 where
  Begins : IsRecordedTalk limit policy rules Recorded old old []
  Answers :
      (between new : Talker) (line : Line) (text answer : List ℕ)
      → IsRecordedTalk limit policy rules Recorded old between text
      → TalksOnce limit policy rules between line new answer
      → (answer ≢ [] → IsRecordedBy rules Recorded between line new answer)
      → IsRecordedTalk limit policy rules Recorded old new (text ++ answer)

-- a prefix of the text of a recorded talk
abbrev pub IsRecordedPart : ℕ → Policy → Rules → Records → Talker → List ℕ → Type 0
IsRecordedPart limit policy rules Recorded old text =
    IsPrefixOf (λ all. (new : Talker) × IsRecordedTalk limit policy rules Recorded old new all) text
