-- The texts of answers, each known to the byte. For what writes them.
use Rattle.std.proofs.Common.{◌≡◌, ◌++◌, ℕ, codes, decimal, refl, append_assoc}
use Rattle.std.specs.Fmt.{digits}
use Rattle.serde_json.proofs.OnLiterals.{serde_json_on_literals}
use Rattle.album_stamps.specs.declared.refusals.Refusal.{Refusal}
use Rattle.album_stamps.specs.declared.refusals.Refusal.TheVariants.{OutOfMemory, BadLine, BadRequest, BadWho, BadMask, BadFlags, ListFull, BadText, NoOwner, AlbumFull, TooManyItems, StampsSpent, SessionsSpent, NoSuchMessage, ClientBusy, Stopped, NotPrepared, Clash, Discarded, Full, Closed, BadOpening, NoSuchPart, NotAdmin}
use Rattle.album_stamps.specs.Refusals.{name_of, number_of}
use Rattle.album_eval.specs.declared.verdicts.Verdict.TheVariants.{Granted, DeniedBy, DeniedAtEnd}
use Rattle.album_lines.specs.Output.{refusal_line, verdict_line}

pub granted_text : verdict_line Granted ≡ codes "{\"answer\":\"granted\"}\n"
unfolding verdict_line serde_json_on_literals
granted_text = refl

pub denied_text : (index : ℕ)
    → verdict_line (DeniedBy index) ≡ codes "{\"answer\":\"denied\",\"at\":" ++ decimal index ++ codes "}\n"
unfolding verdict_line serde_json_on_literals
denied_text index = simp append_assoc

pub denied_at_end_text : verdict_line DeniedAtEnd ≡ codes "{\"answer\":\"denied\",\"at\":\"end\"}\n"
unfolding verdict_line serde_json_on_literals
denied_at_end_text = refl

pub refusal_text : (refusal : Refusal)
    → refusal_line refusal
    ≡ codes "{\"name\":\"" ++ name_of refusal ++ codes "\",\"refused\":" ++ decimal (number_of refusal) ++ codes "}\n"
unfolding refusal_line digits serde_json_on_literals
refusal_text OutOfMemory = refl
refusal_text BadLine = refl
refusal_text BadRequest = refl
refusal_text BadWho = refl
refusal_text BadMask = refl
refusal_text BadFlags = refl
refusal_text ListFull = refl
refusal_text BadText = refl
refusal_text NoOwner = refl
refusal_text AlbumFull = refl
refusal_text TooManyItems = refl
refusal_text StampsSpent = refl
refusal_text SessionsSpent = refl
refusal_text NoSuchMessage = refl
refusal_text ClientBusy = refl
refusal_text Stopped = refl
refusal_text NotPrepared = refl
refusal_text Clash = refl
refusal_text Discarded = refl
refusal_text Full = refl
refusal_text Closed = refl
refusal_text BadOpening = refl
refusal_text NoSuchPart = refl
refusal_text NotAdmin = refl
