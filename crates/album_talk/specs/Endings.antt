-- How a request has ended: which ask it was, what for, and what it came to.
use Rattle.std.specs.Prelude.{ℕ, List, codes, Option, Some, None, Result, Ok, Err}
use Rattle.album_stamps.specs.declared.refusals.Refusal.{Refusal}
use Rattle.album_views.specs.declared.asks.Ask.{Ask}
use Rattle.album_views.specs.declared.asks.Ask.TheVariants as ask
use Rattle.album_permits.specs.declared.answers.Answer.{Answer}
use Rattle.album_permits.specs.declared.answers.Answer.TheVariants as answer
use Rattle.album_talk.specs.declared.endings.AskWord.{AskWord}
use Rattle.album_talk.specs.declared.endings.AskWord.TheVariants as word
use Rattle.album_talk.specs.declared.endings.Outcome.{Outcome}
use Rattle.album_talk.specs.declared.endings.Outcome.TheVariants as outcome
use Rattle.album_talk.specs.declared.endings.Ending.{Ending}

-- ---- of an ask

abbrev pub word_of : Ask → AskWord
word_of (ask.Read object) = word.Read
word_of (ask.List album) = word.List
word_of (ask.GetList object) = word.GetList
word_of (ask.Head object) = word.Head
word_of (ask.Children album) = word.Children
word_of (ask.AddPicture album title content) = word.AddPicture
word_of (ask.AddAlbum album title) = word.AddAlbum
word_of (ask.AddGroup album members) = word.AddGroup
word_of (ask.Retitle object title) = word.Retitle
word_of (ask.Replace object content) = word.Replace
word_of (ask.Delete object) = word.Delete
word_of (ask.Move object to) = word.Move
word_of (ask.SetLists lists) = word.SetLists
word_of (ask.SetOwner object owner group) = word.SetOwner
word_of (ask.SetMembers object members) = word.SetMembers
word_of (ask.Share lists members) = word.Share

-- as a line spells it under `do`
abbrev pub word_text : AskWord → List ℕ
word_text word.Read = codes "read"
word_text word.List = codes "list"
word_text word.GetList = codes "get_list"
word_text word.Head = codes "head"
word_text word.Children = codes "children"
word_text word.AddPicture = codes "add_picture"
word_text word.AddAlbum = codes "add_album"
word_text word.AddGroup = codes "add_group"
word_text word.Retitle = codes "retitle"
word_text word.Replace = codes "replace"
word_text word.Delete = codes "delete"
word_text word.Move = codes "move"
word_text word.SetLists = codes "set_lists"
word_text word.SetOwner = codes "set_owner"
word_text word.SetMembers = codes "set_members"
word_text word.Share = codes "share"

-- the object that it is for, or the album that it is in; one that names many has none
abbrev pub object_of : Ask → Option ℕ
object_of (ask.Read object) = Some object
object_of (ask.List album) = Some album
object_of (ask.GetList object) = Some object
object_of (ask.Head object) = Some object
object_of (ask.Children album) = Some album
object_of (ask.AddPicture album title content) = Some album
object_of (ask.AddAlbum album title) = Some album
object_of (ask.AddGroup album members) = Some album
object_of (ask.Retitle object title) = Some object
object_of (ask.Replace object content) = Some object
object_of (ask.Delete object) = Some object
object_of (ask.Move object to) = Some object
object_of (ask.SetLists lists) = None
object_of (ask.SetOwner object owner group) = Some object
object_of (ask.SetMembers object members) = Some object
object_of (ask.Share lists members) = None

-- ---- of an answer

abbrev pub outcome_of : Answer → Outcome
outcome_of (answer.Served served) = outcome.Served
outcome_of (answer.Denied denial) = outcome.Denied
outcome_of (answer.Missing object) = outcome.Missing
outcome_of (answer.Busy why) = outcome.Busy
outcome_of (answer.Committed stamp) = outcome.Committed stamp
outcome_of (answer.Aborted stamp) = outcome.Aborted stamp
outcome_of (answer.Unsettled stamp why) = outcome.Unsettled stamp why
outcome_of (answer.Refused why) = outcome.Refused why

abbrev pub ended_by : Result Answer Refusal → Outcome
ended_by (Ok answer) = outcome_of answer
ended_by (Err why) = outcome.Refused why

abbrev pub ending_of : Ask → Result Answer Refusal → Ending
ending_of ask answer = record { ask = word_of ask; object = object_of ask; outcome = ended_by answer }
