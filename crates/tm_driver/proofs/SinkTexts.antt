-- What sinks took of texts, one after another.
use Rattle.std.proofs.Common.{◌≡◌, ℕ, zero, suc, ◌+◌, ◌≤◌, List, [], ◌∷◌, ◌++◌, length, take, refl, sym, ◌∙◌, ap, subst, append_assoc, Option}
use Rattle.std.proofs.Math.Seq.{take-append-add, take-length}
use Rattle.std.specs.Io.KnownBytes.{append_known}
use Rattle.tm_base.specs.Outside.{Rose}
use Rattle.tm_base.specs.Written.{Wrote, WrotePrefix}
use Rattle.tm_base.proofs.Known.{append_known-more, append_known-nil}
use Rattle.tm_driver.specs.Courses.{SinkState}
use Rattle.tm_driver.specs.Texts.{TookText, BrokeText}

-- ---- what was written

-- in other words
pub wrote-as : (taken taken_now : Option (List ℕ)) (octets other : List ℕ) → octets ≡ other
    → Wrote taken taken_now octets → Wrote taken taken_now other
wrote-as taken taken_now octets other is wrote = subst (Wrote taken taken_now) is wrote

-- nothing
pub wrote-nothing : (known : Option (List ℕ)) → Wrote known known []
wrote-nothing known = sym (append_known-nil known)

-- the whole is a prefix, and nothing is one
pub wrote-prefix : (before now : Option (List ℕ)) (text : List ℕ) → Wrote before now text → WrotePrefix before now text
wrote-prefix before now text wrote = (length text, wrote ∙ ap (append_known before) (sym (take-length text)))

pub wrote-no_prefix : (known : Option (List ℕ)) (text : List ℕ) → WrotePrefix known known text
wrote-no_prefix known text = (0, wrote-nothing known)

-- one text, and then another
pub wrote-then : (start now after : Option (List ℕ)) (a b : List ℕ) → Wrote start now a → Wrote now after b
    → Wrote start after (a ++ b)
wrote-then start now after a b one two = two ∙ ap (λ k. append_known k b) one ∙ append_known-more start a b

-- a prefix of a text is a prefix of the text and more
part-of : (n : ℕ) (text more : List ℕ) → (m : ℕ) × (take n text ≡ take m (text ++ more))
part-of zero text more = (0, refl)
part-of (suc n) [] more = (0, refl)
part-of (suc n) (t ∷ ts) more = let r = part-of n ts more in (suc r.0, ap (λ l. t ∷ l) r.1)

pub prefix-of : (before now : Option (List ℕ)) (text more : List ℕ) → WrotePrefix before now text
    → WrotePrefix before now (text ++ more)
prefix-of before now text more wrote =
    let r = part-of wrote.0 text more in (r.0, wrote.1 ∙ ap (append_known before) r.1)

-- a text and a part of the next are a prefix of both and more
pub part-prefix : (before now : Option (List ℕ)) (first text more : List ℕ) → (count : ℕ)
    × Wrote before now (first ++ take count text)
    → WrotePrefix before now (first ++ (text ++ more))
part-prefix before now first text more w =
    let r = part-of w.0 text more in (
      length first + r.0,
      w.1 ∙ ap (append_known before) (ap (λ l. first ++ l) r.1 ∙ sym (take-append-add first (text ++ more) r.0)),
    )

-- ---- the same with the count of faults

pub took-none : (a : SinkState) → TookText a a []
took-none a = record { written = wrote-nothing a.taken; same = refl }

pub took-more : (a b c : SinkState) (x y : List ℕ) → TookText a b x → TookText b c y → TookText a c (x ++ y)
took-more a b c x y p q =
    record { written = wrote-then a.taken b.taken c.taken x y p.written q.written; same = q.same ∙ p.same }

-- it failed in a text after more texts
pub broke-later : (a b c : SinkState) (last : Type 0) (x first text : List ℕ) → TookText a b x
    → BrokeText b c last first text
    → BrokeText a c last (x ++ first) text
broke-later a b c last x first text p q =
    let w = q.written in
    let part = take w.0 text in record {
      some = q.some;
      written = (
        w.0,
        wrote-then a.taken b.taken c.taken x (first ++ part) p.written w.1
            ∙ ap (append_known a.taken) (sym (append_assoc x first part)),
      );
      later = subst (λ (n : ℕ). n ≤ c.faults) p.same q.later;
      rose = subst (λ (n : ℕ). Rose n c.faults last) p.same q.rose;
    }
