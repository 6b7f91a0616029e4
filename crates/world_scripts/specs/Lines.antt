-- The grammar of one line.
use Rattle.std.specs.Prelude.{ℕ, List, [], ◌∷◌, ◌&&◌, Option, None, Some, if◌then◌else◌, codes}
use Rattle.std.specs.Bool.{then_some}
use Rattle.std.specs.Option.{option_map, option_and_then}
use Rattle.std.specs.Str.{bytes_eq}
use Rattle.world_scripts.specs.declared.lines.Line.{Line}
use Rattle.world_scripts.specs.declared.lines.Line.TheVariants.{Caps, Attr, HealthOk, HealthBad, Effective, Custom, Send, Deliver, Reply, GiveUp, Restart, ServerRestart, OfferConfig, OfferConnection, Component, Stop, Record, Push, TakePush, Active}
use Rattle.world_scripts.specs.Cuts.{words_in}
use Rattle.world_scripts.specs.Words.{is_word, is_url, capabilities_in, decimal_number, digit_number, mode_named}

-- the lines of one word
unfoldable pub line_of_one : List ℕ → Option Line
line_of_one verb =
    if bytes_eq verb (codes "send") then Some Send
    else if bytes_eq verb (codes "reply") then Some Reply
    else if bytes_eq verb (codes "giveup") then Some GiveUp
    else if bytes_eq verb (codes "restart") then Some Restart
    else if bytes_eq verb (codes "active") then Some Active
    else if bytes_eq verb (codes "take-push") then Some TakePush
    else None

-- the lines of two words
unfoldable pub line_of_two : List ℕ → List ℕ → Option Line
line_of_two verb word =
    if bytes_eq verb (codes "caps") then option_map Caps (capabilities_in word)
    else if bytes_eq verb (codes "health") then then_some (bytes_eq word (codes "ok")) HealthOk
    else if bytes_eq verb (codes "custom") then then_some (is_word word) (Custom word)
    else if bytes_eq verb (codes "component") then then_some (is_word word) (Component word)
    else if bytes_eq verb (codes "deliver") then option_map Deliver (decimal_number word)
    else if bytes_eq verb (codes "server-restart") then option_map ServerRestart (digit_number word)
    else if bytes_eq verb (codes "record") then option_map Record (digit_number word)
    else if bytes_eq verb (codes "push") then option_map Push (digit_number word)
    else None

-- an endpoint that this server offers
abbrev pub connection_offered : List ℕ → List ℕ → Option Line
connection_offered server url = option_and_then (λ n. then_some (is_url url) (OfferConnection n url)) (digit_number server)

-- a configuration file that this server offers
abbrev pub config_offered : List ℕ → List ℕ → List ℕ → Option Line
config_offered server name text = option_and_then (λ n. then_some (is_word name && is_word text) (OfferConfig n name text)) (digit_number server)

-- the device call of this number is stopped, and a crash in this mode follows
abbrev pub stop_armed : List ℕ → List ℕ → Option Line
stop_armed call mode = option_and_then (λ n. option_map (λ named. Stop n named) (mode_named mode)) (decimal_number call)

-- the lines of three words
unfoldable pub line_of_three : List ℕ → List ℕ → List ℕ → Option Line
line_of_three verb first second =
    if bytes_eq verb (codes "attr") then then_some (is_word first && is_word second) (Attr first second)
    else if bytes_eq verb (codes "effective") then then_some (is_word first && is_word second) (Effective first second)
    else if bytes_eq verb (codes "health") then then_some (bytes_eq first (codes "bad") && is_word second) (HealthBad second)
    else if bytes_eq verb (codes "offer-connection") then connection_offered first second
    else if bytes_eq verb (codes "stop") then stop_armed first second
    else None

-- the line of four words
unfoldable pub line_of_four : List ℕ → List ℕ → List ℕ → List ℕ → Option Line
line_of_four verb first second third = if bytes_eq verb (codes "offer-config") then config_offered first second third else None

-- the line that these words are
abbrev pub line_of_words : List (List ℕ) → Option Line
line_of_words (verb ∷ []) = line_of_one verb
line_of_words (verb ∷ word ∷ []) = line_of_two verb word
line_of_words (verb ∷ first ∷ second ∷ []) = line_of_three verb first second
line_of_words (verb ∷ first ∷ second ∷ third ∷ []) = line_of_four verb first second third
line_of_words words = None

-- the line that these bytes are
unfoldable pub line_in : List ℕ → Option Line
line_in line = line_of_words (words_in line)
