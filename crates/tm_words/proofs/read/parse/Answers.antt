use Rattle.std.proofs.Common.{◌≡◌, ◌∙◌, ap, sym, map, string_bytes, [], subst, inl, inr}
use Rattle.clap.specs.Words.{App, app_of, is_simple, is_simple_and_free, fault_of, subcommand_of, IsAmong, kind_of}
use Rattle.clap.specs.Kinds.{Kinds}
use Rattle.tm_words.specs.declared.read.WordsError.TheVariants.{Words}
use Rattle.tm_words.proofs.Rule.{line-is_simple, line-is_free}
use Rattle.tm_words.proofs.read.parse.Goals as goal

pub returns-in-Ok-try_get_matches_from-clause-taken : goal.returns-in-Ok-try_get_matches_from-clause-taken
returns-in-Ok-try_get_matches_from-clause-taken c =
    ap (λ (a : App). fault_of a (map string_bytes c.args.words.now)) (sym c.in-Ok.ensures.app)
    ∙ c.in-Ok-try_get_matches_from.ensures.kinds (ap is_simple_and_free c.in-Ok.ensures.app ∙ line-is_free)

pub returns-in-Ok-try_get_matches_from-clause-matches : goal.returns-in-Ok-try_get_matches_from-clause-matches
returns-in-Ok-try_get_matches_from-clause-matches c =
    (c.in-Ok-try_get_matches_from.ensures.matches (ap is_simple c.in-Ok.ensures.app ∙ line-is_simple)).1
    ∙ ap (λ (a : App). subcommand_of a (map string_bytes c.args.words.now)) c.in-Ok.ensures.app

pub returns-in-Err-try_get_matches_from-clause-refused : goal.returns-in-Err-try_get_matches_from-clause-refused
returns-in-Err-try_get_matches_from-clause-refused c = λ is taken.
    let kinds = c.in-Err-try_get_matches_from.ensures.kinds
    (ap is_simple_and_free c.in-Ok.ensures.app ∙ line-is_free) in
    let none : fault_of (app_of c.in-Ok.command) (map string_bytes c.args.words.now) ≡ [] =
    ap (λ (a : App). fault_of a (map string_bytes c.args.words.now)) c.in-Ok.ensures.app ∙ taken in
    elim kinds [
      | inl oom ↦ let e : c.refusal.result ≡ Words = cc is in c.refusal.ensures e oom
      | inr among ↦ let P : Kinds → Type 0 =
          λ ks. IsAmong (kind_of c.in-Err-try_get_matches_from.error) ks in subst P none among
    ]
