-- The script of a storm: a row of lines that a generator of numbers draws.
use Rattle.std.specs.Prelude.{ℕ, ◌+◌, ◌*◌, ◌/◌, ◌%◌, ◌^◌, ◌++◌, ◌==◌, nat_lt, if◌then◌else◌, codes}
use Rattle.std.specs.Fmt.{decimal}
use Rattle.world_scripts.specs.declared.lines.Line.{Line}
use Rattle.world_scripts.specs.declared.lines.Line.TheVariants.{Attr, HealthOk, HealthBad, Send, Deliver, Reply, GiveUp, Restart, ServerRestart, Record}

-- the state behind this one: a linear congruential generator modulo 2^64, with Knuth's multiplier
unfoldable pub next_state : ℕ → ℕ
next_state x = (x * 6364136223846793005 + 1442695040888963407) % 2 ^ 64

-- what a state draws: its 31 uppermost bits
abbrev pub draw_of : ℕ → ℕ
draw_of x = x / 2 ^ 33

-- the last report is delivered, or the first one sent
abbrev pub last_delivered : ℕ → Line
last_delivered sent = if sent == 0 then Send else Deliver sent

-- one of the reports is delivered, or the first one sent
abbrev pub one_delivered : ℕ → ℕ → Line
one_delivered rest sent = if sent == 0 then Send else Deliver (1 + rest % sent)

abbrev pub health_drawn : ℕ → Line
health_drawn rest = if rest % 2 == 0 then HealthOk else HealthBad (codes "e")

-- one of eight attributes, with one of 64 values
abbrev pub attribute_drawn : ℕ → Line
attribute_drawn rest = Attr (codes "k" ++ decimal (rest % 8)) (codes "v" ++ decimal (rest % 64))

-- the lines that are drawn least
unfoldable pub rare_line : ℕ → Line
rare_line rest =
    if rest % 4 == 0 then Restart
    else if rest % 4 == 1 then ServerRestart 0
    else if rest % 4 == 2 then attribute_drawn rest
    else Record 0

-- the line of a choice from 0 to 15, by the rest of what is drawn and how many reports were sent so far
unfoldable pub line_chosen : ℕ → ℕ → ℕ → Line
line_chosen choice rest sent =
    if nat_lt choice 5 then Send
    else if nat_lt choice 9 then last_delivered sent
    else if nat_lt choice 12 then Reply
    else if choice == 12 then one_delivered rest sent
    else if choice == 13 then health_drawn rest
    else if choice == 14 then GiveUp
    else rare_line rest

-- the line of what is drawn
abbrev pub line_drawn : ℕ → ℕ → Line
line_drawn draw sent = line_chosen (draw % 16) (draw / 16) sent

-- the next line of a storm whose generator has this state, where so many reports were sent so far; the generator is in the state behind it then
abbrev pub next_line : ℕ → ℕ → Line
next_line x sent = line_drawn (draw_of (next_state x)) sent
