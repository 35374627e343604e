-- Messages and the values of their fields (001, Annex C, Appendix 3; 01, 'Messages'; 02, items 1 and 2).
use Rattle.std.specs.Prelude.{Bool, true, false, ℕ, Option, Some, None}
use Rattle.layout.specs.Layout.{Values}
use Rattle.kind.specs.Layouts.{iff_layout, track_layout, amplifying_layout, strobe_layout, corner_layout, layout_of}
use Rattle.kind.specs.declared.Kind.{Kind}
use Rattle.kind.specs.declared.Kind.TheVariants.{Blank, S0, S3, S4, S4Plus, S5, S6, S8, S8Plus, S9}
use Rattle.message.specs.declared.Iff.{Iff}
use Rattle.message.specs.declared.Track.{Track}
use Rattle.message.specs.declared.Amplifying.{Amplifying}
use Rattle.message.specs.declared.Strobe.{Strobe}
use Rattle.message.specs.declared.Corner.{Corner}
use Rattle.message.specs.declared.Message.{Message}
use Rattle.message.specs.declared.Message.TheVariants as m

-- ---- a mode is absent, or present with its code; the code of an absent mode is not looked at, and is written as zeros (02, item 2)

abbrev pub mode_of : Bool → ℕ → Option ℕ
mode_of true n = Some n
mode_of false n = None

abbrev pub presence_of : Option ℕ → Bool
presence_of None = false
presence_of (Some n) = true

abbrev pub code_of : Option ℕ → ℕ
code_of None = 0
code_of (Some n) = n

-- ---- the structs from the values of their fields, in the order of the layout, and back

abbrev pub track_from : Values track_layout → Track
track_from = λ (n, (q, (x, (y, e)))). record { number = n; quality = q; x = record { 0 = x }; y = record { 0 = y } }

abbrev pub track_parts : Track → Values track_layout
track_parts t = (t.number, (t.quality, (t.x.0, (t.y.0, tt))))

abbrev pub iff_from : Values iff_layout → Iff
iff_from = λ (s, (c3, (r, (em, (p1, (p2, (p3, (v, (s2, (c1, (s3, (c2, e)))))))))))).
    record { mode3a = mode_of p3 c3; request = r; emergency = em; validation = v; mode1 = mode_of p1 c1; mode2 = mode_of p2 c2 }

abbrev pub iff_parts : Iff → Values iff_layout
iff_parts i = (tt, (code_of i.mode3a, (i.request, (i.emergency, (presence_of i.mode1, (presence_of i.mode2, (presence_of i.mode3a, (i.validation, (tt, (code_of i.mode1, (tt, (code_of i.mode2, tt))))))))))))

abbrev pub amplifying_from : Values amplifying_layout → Amplifying
amplifying_from = λ (a, (s, (i, (sp, (sim, (d, (t, (vx, (al, (sp2, (vy, e))))))))))).
    record {
      altitude = record { 0 = a };
      strength = s;
      identification = i;
      special23 = sp;
      simulated = sim;
      drop = d;
      traffic = t;
      vx = vx;
      allocation = al;
      special39 = sp2;
      vy = vy;
    }

abbrev pub amplifying_parts : Amplifying → Values amplifying_layout
amplifying_parts a = (a.altitude.0, (a.strength, (a.identification, (a.special23, (a.simulated, (a.drop, (a.traffic, (a.vx, (a.allocation, (a.special39, (a.vy, tt)))))))))))

abbrev pub strobe_from : Values strobe_layout → Strobe
strobe_from = λ (a, (w, (c, (sim, (az, (si, (se, (n, (el, (ag, e)))))))))).
    record {
      acquisition = a;
      width = w;
      strobe_type = c;
      simulated = sim;
      azimuth = az;
      site = si;
      sensor = se;
      number = n;
      elevation = el;
      age = ag;
    }

abbrev pub strobe_parts : Strobe → Values strobe_layout
strobe_parts s = (s.acquisition, (s.width, (s.strobe_type, (s.simulated, (s.azimuth, (s.site, (s.sensor, (s.number, (s.elevation, (s.age, tt))))))))))

abbrev pub corner_from : Values corner_layout → Corner
corner_from = λ (a, (s, (si, (n, (d, (s2, (x, (y, e)))))))).
    record { area = a; site = si; number = n; drop = d; x = record { 0 = x }; y = record { 0 = y } }

abbrev pub corner_parts : Corner → Values corner_layout
corner_parts c = (c.area, (tt, (c.site, (c.number, (c.drop, (tt, (c.x.0, (c.y.0, tt))))))))

-- ---- a message from the values of its kind, and back

abbrev pub made_of : (k : Kind) → Values (layout_of k) → Message
made_of Blank vs = m.Blank
made_of S0 vs = m.S0
made_of S3 vs = m.S3 (iff_from vs)
made_of S4 vs = m.S4 (track_from vs)
made_of S4Plus vs = m.S4Plus (track_from vs)
made_of S5 vs = m.S5 (amplifying_from vs)
made_of S6 vs = m.S6 (strobe_from vs)
made_of S8 vs = m.S8 (track_from vs)
made_of S8Plus vs = m.S8Plus (track_from vs)
made_of S9 vs = m.S9 (corner_from vs)

abbrev pub kind_of : Message → Kind
kind_of m.Blank = Blank
kind_of m.S0 = S0
kind_of (m.S3 i) = S3
kind_of (m.S4 t) = S4
kind_of (m.S4Plus t) = S4Plus
kind_of (m.S5 a) = S5
kind_of (m.S6 s) = S6
kind_of (m.S8 t) = S8
kind_of (m.S8Plus t) = S8Plus
kind_of (m.S9 c) = S9

abbrev pub parts_of : (msg : Message) → Values (layout_of (kind_of msg))
parts_of m.Blank = (tt, tt)
parts_of m.S0 = (tt, (tt, (tt, (tt, (tt, (tt, (tt, tt)))))))
parts_of (m.S3 i) = iff_parts i
parts_of (m.S4 t) = track_parts t
parts_of (m.S4Plus t) = track_parts t
parts_of (m.S5 a) = amplifying_parts a
parts_of (m.S6 s) = strobe_parts s
parts_of (m.S8 t) = track_parts t
parts_of (m.S8Plus t) = track_parts t
parts_of (m.S9 c) = corner_parts c
