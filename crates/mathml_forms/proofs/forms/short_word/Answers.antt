-- Each arm is the table's row of its key, by computing; a key of no arm is that of no row with a form. Written by tools/make_mathml_forms.py.
use Rattle.mathml_rules.specs.Utf8.{encoded, utf8}
use Rattle.mathml_rules.specs.Forms.{forms}
use Rattle.mathml_forms.specs.Keys.{key, ascii, key_of}
use Rattle.mathml_forms.specs.Words.{packed, key_word_by, key_word}
use Rattle.mathml_forms.proofs.Words.{NoRow, no_row}
use Rattle.mathml_forms.proofs.forms.short_word.Goals as goal

pub returns-in-3102369 : goal.returns-in-3102369
unfolding key_word key_word_by forms key_of key ascii packed utf8 encoded
returns-in-3102369 c = rw c.in-3102369.is

pub returns-in-24225 : goal.returns-in-24225
unfolding key_word key_word_by forms key_of key ascii packed utf8 encoded
returns-in-24225 c = rw c.in-24225.is

pub returns-in-3236513 : goal.returns-in-3236513
unfolding key_word key_word_by forms key_of key ascii packed utf8 encoded
returns-in-3236513 c = rw c.in-3236513.is

pub returns-in-3912865 : goal.returns-in-3912865
unfolding key_word key_word_by forms key_of key ascii packed utf8 encoded
returns-in-3912865 c = rw c.in-3912865.is

pub returns-in-475888033 : goal.returns-in-475888033
unfolding key_word key_word_by forms key_of key ascii packed utf8 encoded
returns-in-475888033 c = rw c.in-475888033.is

pub returns-in-61679172001 : goal.returns-in-61679172001
unfolding key_word key_word_by forms key_of key ascii packed utf8 encoded
returns-in-61679172001 c = rw c.in-61679172001.is

pub returns-in-505248161 : goal.returns-in-505248161
unfolding key_word key_word_by forms key_of key ascii packed utf8 encoded
returns-in-505248161 c = rw c.in-505248161.is

pub returns-in-61708532129 : goal.returns-in-61708532129
unfolding key_word key_word_by forms key_of key ascii packed utf8 encoded
returns-in-61708532129 c = rw c.in-61708532129.is

pub returns-in-167 : goal.returns-in-167
unfolding key_word key_word_by forms key_of key ascii packed utf8 encoded
returns-in-167 c = rw c.in-167.is

pub returns-in-23848 : goal.returns-in-23848
unfolding key_word key_word_by forms key_of key ascii packed utf8 encoded
returns-in-23848 c = rw c.in-23848.is

pub returns-in-170 : goal.returns-in-170
unfolding key_word key_word_by forms key_of key ascii packed utf8 encoded
returns-in-170 c = rw c.in-170.is

pub returns-in-21802 : goal.returns-in-21802
unfolding key_word key_word_by forms key_of key ascii packed utf8 encoded
returns-in-21802 c = rw c.in-21802.is

pub returns-in-2790698 : goal.returns-in-2790698
unfolding key_word key_word_by forms key_of key ascii packed utf8 encoded
returns-in-2790698 c = rw c.in-2790698.is

pub returns-in-22187 : goal.returns-in-22187
unfolding key_word key_word_by forms key_of key ascii packed utf8 encoded
returns-in-22187 c = rw c.in-22187.is

pub returns-in-21933 : goal.returns-in-21933
unfolding key_word key_word_by forms key_of key ascii packed utf8 encoded
returns-in-21933 c = rw c.in-21933.is

pub returns-in-23853 : goal.returns-in-23853
unfolding key_word key_word_by forms key_of key ascii packed utf8 encoded
returns-in-23853 c = rw c.in-23853.is

pub returns-in-24109 : goal.returns-in-24109
unfolding key_word key_word_by forms key_of key ascii packed utf8 encoded
returns-in-24109 c = rw c.in-24109.is

pub returns-in-3104301 : goal.returns-in-3104301
unfolding key_word key_word_by forms key_of key ascii packed utf8 encoded
returns-in-3104301 c = rw c.in-3104301.is

pub returns-in-24237 : goal.returns-in-24237
unfolding key_word key_word_by forms key_of key ascii packed utf8 encoded
returns-in-24237 c = rw c.in-24237.is

pub returns-in-24365 : goal.returns-in-24365
unfolding key_word key_word_by forms key_of key ascii packed utf8 encoded
returns-in-24365 c = rw c.in-24365.is

pub returns-in-3120941 : goal.returns-in-3120941
unfolding key_word key_word_by forms key_of key ascii packed utf8 encoded
returns-in-3120941 c = rw c.in-3120941.is

pub returns-in-4011565 : goal.returns-in-4011565
unfolding key_word key_word_by forms key_of key ascii packed utf8 encoded
returns-in-4011565 c = rw c.in-4011565.is

pub returns-in-2856750 : goal.returns-in-2856750
unfolding key_word key_word_by forms key_of key ascii packed utf8 encoded
returns-in-2856750 c = rw c.in-2856750.is

pub returns-in-22447 : goal.returns-in-22447
unfolding key_word key_word_by forms key_of key ascii packed utf8 encoded
returns-in-22447 c = rw c.in-22447.is

pub returns-in-28591 : goal.returns-in-28591
unfolding key_word key_word_by forms key_of key ascii packed utf8 encoded
returns-in-28591 c = rw c.in-28591.is

pub returns-in-3616687 : goal.returns-in-3616687
unfolding key_word key_word_by forms key_of key ascii packed utf8 encoded
returns-in-3616687 c = rw c.in-3616687.is

pub returns-in-21434 : goal.returns-in-21434
unfolding key_word key_word_by forms key_of key ascii packed utf8 encoded
returns-in-21434 c = rw c.in-21434.is

pub returns-in-21690 : goal.returns-in-21690
unfolding key_word key_word_by forms key_of key ascii packed utf8 encoded
returns-in-21690 c = rw c.in-21690.is

pub returns-in-22330 : goal.returns-in-22330
unfolding key_word key_word_by forms key_of key ascii packed utf8 encoded
returns-in-22330 c = rw c.in-22330.is

pub returns-in-32314 : goal.returns-in-32314
unfolding key_word key_word_by forms key_of key ascii packed utf8 encoded
returns-in-32314 c = rw c.in-32314.is

pub returns-in-3063354 : goal.returns-in-3063354
unfolding key_word key_word_by forms key_of key ascii packed utf8 encoded
returns-in-3063354 c = rw c.in-3063354.is

pub returns-in-32442 : goal.returns-in-32442
unfolding key_word key_word_by forms key_of key ascii packed utf8 encoded
returns-in-32442 c = rw c.in-32442.is

pub returns-in-22204 : goal.returns-in-22204
unfolding key_word key_word_by forms key_of key ascii packed utf8 encoded
returns-in-22204 c = rw c.in-22204.is

pub returns-in-3118780 : goal.returns-in-3118780
unfolding key_word key_word_by forms key_of key ascii packed utf8 encoded
returns-in-3118780 c = rw c.in-3118780.is

pub returns-in-24124 : goal.returns-in-24124
unfolding key_word key_word_by forms key_of key ascii packed utf8 encoded
returns-in-24124 c = rw c.in-24124.is

pub returns-in-24252 : goal.returns-in-24252
unfolding key_word key_word_by forms key_of key ascii packed utf8 encoded
returns-in-24252 c = rw c.in-24252.is

pub returns-in-3104444 : goal.returns-in-3104444
unfolding key_word key_word_by forms key_of key ascii packed utf8 encoded
returns-in-3104444 c = rw c.in-3104444.is

pub returns-in-399466172 : goal.returns-in-399466172
unfolding key_word key_word_by forms key_of key ascii packed utf8 encoded
returns-in-399466172 c = rw c.in-399466172.is

pub returns-in-3120828 : goal.returns-in-3120828
unfolding key_word key_word_by forms key_of key ascii packed utf8 encoded
returns-in-3120828 c = rw c.in-3120828.is

pub returns-in-3120829 : goal.returns-in-3120829
unfolding key_word key_word_by forms key_of key ascii packed utf8 encoded
returns-in-3120829 c = rw c.in-3120829.is

pub returns-in-24381 : goal.returns-in-24381
unfolding key_word key_word_by forms key_of key ascii packed utf8 encoded
returns-in-24381 c = rw c.in-24381.is

pub returns-in-22206 : goal.returns-in-22206
unfolding key_word key_word_by forms key_of key ascii packed utf8 encoded
returns-in-22206 c = rw c.in-22206.is

pub returns-in-3102398 : goal.returns-in-3102398
unfolding key_word key_word_by forms key_of key ascii packed utf8 encoded
returns-in-3102398 c = rw c.in-3102398.is

pub returns-in-3118782 : goal.returns-in-3118782
unfolding key_word key_word_by forms key_of key ascii packed utf8 encoded
returns-in-3118782 c = rw c.in-3118782.is

pub returns-in-399480510 : goal.returns-in-399480510
unfolding key_word key_word_by forms key_of key ascii packed utf8 encoded
returns-in-399480510 c = rw c.in-399480510.is

pub returns-in-4136510 : goal.returns-in-4136510
unfolding key_word key_word_by forms key_of key ascii packed utf8 encoded
returns-in-4136510 c = rw c.in-4136510.is

pub returns-in-24254 : goal.returns-in-24254
unfolding key_word key_word_by forms key_of key ascii packed utf8 encoded
returns-in-24254 c = rw c.in-24254.is

pub returns-in-24382 : goal.returns-in-24382
unfolding key_word key_word_by forms key_of key ascii packed utf8 encoded
returns-in-24382 c = rw c.in-24382.is

pub returns-in-192 : goal.returns-in-192
unfolding key_word key_word_by forms key_of key ascii packed utf8 encoded
returns-in-192 c = rw c.in-192.is

pub returns-in-24769 : goal.returns-in-24769
unfolding key_word key_word_by forms key_of key ascii packed utf8 encoded
returns-in-24769 c = rw c.in-24769.is

pub returns-in-60617930305 : goal.returns-in-60617930305
unfolding key_word key_word_by forms key_of key ascii packed utf8 encoded
returns-in-60617930305 c = rw c.in-60617930305.is

pub returns-in-473772738 : goal.returns-in-473772738
unfolding key_word key_word_by forms key_of key ascii packed utf8 encoded
returns-in-473772738 c = rw c.in-473772738.is

pub returns-in-25027 : goal.returns-in-25027
unfolding key_word key_word_by forms key_of key ascii packed utf8 encoded
returns-in-25027 c = rw c.in-25027.is

pub returns-in-3830851 : goal.returns-in-3830851
unfolding key_word key_word_by forms key_of key ascii packed utf8 encoded
returns-in-3830851 c = rw c.in-3830851.is

pub returns-in-60643029700 : goal.returns-in-60643029700
unfolding key_word key_word_by forms key_of key ascii packed utf8 encoded
returns-in-60643029700 c = rw c.in-60643029700.is

pub returns-in-17861218492781295556 : goal.returns-in-17861218492781295556
unfolding key_word key_word_by forms key_of key ascii packed utf8 encoded
returns-in-17861218492781295556 c = rw c.in-17861218492781295556.is

pub returns-in-25285 : goal.returns-in-25285
unfolding key_word key_word_by forms key_of key ascii packed utf8 encoded
returns-in-25285 c = rw c.in-25285.is

pub returns-in-490534981 : goal.returns-in-490534981
unfolding key_word key_word_by forms key_of key ascii packed utf8 encoded
returns-in-490534981 c = rw c.in-490534981.is

pub returns-in-1050578213730373 : goal.returns-in-1050578213730373
unfolding key_word key_word_by forms key_of key ascii packed utf8 encoded
returns-in-1050578213730373 c = rw c.in-1050578213730373.is

pub returns-in-3701317 : goal.returns-in-3701317
unfolding key_word key_word_by forms key_of key ascii packed utf8 encoded
returns-in-3701317 c = rw c.in-3701317.is

pub returns-in-60628365511 : goal.returns-in-60628365511
unfolding key_word key_word_by forms key_of key ascii packed utf8 encoded
returns-in-60628365511 c = rw c.in-60628365511.is

pub returns-in-473774025 : goal.returns-in-473774025
unfolding key_word key_word_by forms key_of key ascii packed utf8 encoded
returns-in-473774025 c = rw c.in-473774025.is

pub returns-in-60634706123 : goal.returns-in-60634706123
unfolding key_word key_word_by forms key_of key ascii packed utf8 encoded
returns-in-60634706123 c = rw c.in-60634706123.is

pub returns-in-7757991997644 : goal.returns-in-7757991997644
unfolding key_word key_word_by forms key_of key ascii packed utf8 encoded
returns-in-7757991997644 c = rw c.in-7757991997644.is

pub returns-in-60609491148 : goal.returns-in-60609491148
unfolding key_word key_word_by forms key_of key ascii packed utf8 encoded
returns-in-60609491148 c = rw c.in-60609491148.is

pub returns-in-17861218492793598668 : goal.returns-in-17861218492793598668
unfolding key_word key_word_by forms key_of key ascii packed utf8 encoded
returns-in-17861218492793598668 c = rw c.in-17861218492793598668.is

pub returns-in-31437 : goal.returns-in-31437
unfolding key_word key_word_by forms key_of key ascii packed utf8 encoded
returns-in-31437 c = rw c.in-31437.is

pub returns-in-26446 : goal.returns-in-26446
unfolding key_word key_word_by forms key_of key ascii packed utf8 encoded
returns-in-26446 c = rw c.in-26446.is

pub returns-in-31438 : goal.returns-in-31438
unfolding key_word key_word_by forms key_of key ascii packed utf8 encoded
returns-in-31438 c = rw c.in-31438.is

pub returns-in-22479 : goal.returns-in-22479
unfolding key_word key_word_by forms key_of key ascii packed utf8 encoded
returns-in-22479 c = rw c.in-22479.is

pub returns-in-60615653071 : goal.returns-in-60615653071
unfolding key_word key_word_by forms key_of key ascii packed utf8 encoded
returns-in-60615653071 c = rw c.in-60615653071.is

pub returns-in-3830864 : goal.returns-in-3830864
unfolding key_word key_word_by forms key_of key ascii packed utf8 encoded
returns-in-3830864 c = rw c.in-3830864.is

pub returns-in-29904 : goal.returns-in-29904
unfolding key_word key_word_by forms key_of key ascii packed utf8 encoded
returns-in-29904 c = rw c.in-29904.is

pub returns-in-3832272 : goal.returns-in-3832272
unfolding key_word key_word_by forms key_of key ascii packed utf8 encoded
returns-in-3832272 c = rw c.in-3832272.is

pub returns-in-26833 : goal.returns-in-26833
unfolding key_word key_word_by forms key_of key ascii packed utf8 encoded
returns-in-26833 c = rw c.in-26833.is

pub returns-in-26962 : goal.returns-in-26962
unfolding key_word key_word_by forms key_of key ascii packed utf8 encoded
returns-in-26962 c = rw c.in-26962.is

pub returns-in-3929170 : goal.returns-in-3929170
unfolding key_word key_word_by forms key_of key ascii packed utf8 encoded
returns-in-3929170 c = rw c.in-3929170.is

pub returns-in-60628268243 : goal.returns-in-60628268243
unfolding key_word key_word_by forms key_of key ascii packed utf8 encoded
returns-in-60628268243 c = rw c.in-60628268243.is

pub returns-in-27220 : goal.returns-in-27220
unfolding key_word key_word_by forms key_of key ascii packed utf8 encoded
returns-in-27220 c = rw c.in-27220.is

pub returns-in-4026580 : goal.returns-in-4026580
unfolding key_word key_word_by forms key_of key ascii packed utf8 encoded
returns-in-4026580 c = rw c.in-4026580.is

pub returns-in-60642915412 : goal.returns-in-60642915412
unfolding key_word key_word_by forms key_of key ascii packed utf8 encoded
returns-in-60642915412 c = rw c.in-60642915412.is

pub returns-in-1090162261522517 : goal.returns-in-1090162261522517
unfolding key_word key_word_by forms key_of key ascii packed utf8 encoded
returns-in-1090162261522517 c = rw c.in-1090162261522517.is

pub returns-in-1050578213730389 : goal.returns-in-1050578213730389
unfolding key_word key_word_by forms key_of key ascii packed utf8 encoded
returns-in-1050578213730389 c = rw c.in-1050578213730389.is

pub returns-in-127177411411095766 : goal.returns-in-127177411411095766
unfolding key_word key_word_by forms key_of key ascii packed utf8 encoded
returns-in-127177411411095766 c = rw c.in-127177411411095766.is

pub returns-in-29912 : goal.returns-in-29912
unfolding key_word key_word_by forms key_of key ascii packed utf8 encoded
returns-in-29912 c = rw c.in-29912.is

pub returns-in-27994 : goal.returns-in-27994
unfolding key_word key_word_by forms key_of key ascii packed utf8 encoded
returns-in-27994 c = rw c.in-27994.is

pub returns-in-473772762 : goal.returns-in-473772762
unfolding key_word key_word_by forms key_of key ascii packed utf8 encoded
returns-in-473772762 c = rw c.in-473772762.is

pub returns-in-20572 : goal.returns-in-20572
unfolding key_word key_word_by forms key_of key ascii packed utf8 encoded
returns-in-20572 c = rw c.in-20572.is

pub returns-in-28252 : goal.returns-in-28252
unfolding key_word key_word_by forms key_of key ascii packed utf8 encoded
returns-in-28252 c = rw c.in-28252.is

pub returns-in-28510 : goal.returns-in-28510
unfolding key_word key_word_by forms key_of key ascii packed utf8 encoded
returns-in-28510 c = rw c.in-28510.is

pub returns-in-3649374 : goal.returns-in-3649374
unfolding key_word key_word_by forms key_of key ascii packed utf8 encoded
returns-in-3649374 c = rw c.in-3649374.is

pub returns-in-4141023 : goal.returns-in-4141023
unfolding key_word key_word_by forms key_of key ascii packed utf8 encoded
returns-in-4141023 c = rw c.in-4141023.is

pub returns-in-3669599 : goal.returns-in-3669599
unfolding key_word key_word_by forms key_of key ascii packed utf8 encoded
returns-in-3669599 c = rw c.in-3669599.is

pub returns-in-62513575521 : goal.returns-in-62513575521
unfolding key_word key_word_by forms key_of key ascii packed utf8 encoded
returns-in-62513575521 c = rw c.in-62513575521.is

pub returns-in-60617930337 : goal.returns-in-60617930337
unfolding key_word key_word_by forms key_of key ascii packed utf8 encoded
returns-in-60617930337 c = rw c.in-60617930337.is

pub returns-in-61699913569 : goal.returns-in-61699913569
unfolding key_word key_word_by forms key_of key ascii packed utf8 encoded
returns-in-61699913569 c = rw c.in-61699913569.is

pub returns-in-8551252375649 : goal.returns-in-8551252375649
unfolding key_word key_word_by forms key_of key ascii packed utf8 encoded
returns-in-8551252375649 c = rw c.in-8551252375649.is

pub returns-in-4012513 : goal.returns-in-4012513
unfolding key_word key_word_by forms key_of key ascii packed utf8 encoded
returns-in-4012513 c = rw c.in-4012513.is

pub returns-in-16782531413902160098 : goal.returns-in-16782531413902160098
unfolding key_word key_word_by forms key_of key ascii packed utf8 encoded
returns-in-16782531413902160098 c = rw c.in-16782531413902160098.is

pub returns-in-1011135632962274 : goal.returns-in-1011135632962274
unfolding key_word key_word_by forms key_of key ascii packed utf8 encoded
returns-in-1011135632962274 c = rw c.in-1011135632962274.is

pub returns-in-473772770 : goal.returns-in-473772770
unfolding key_word key_word_by forms key_of key ascii packed utf8 encoded
returns-in-473772770 c = rw c.in-473772770.is

pub returns-in-8272584766690 : goal.returns-in-8272584766690
unfolding key_word key_word_by forms key_of key ascii packed utf8 encoded
returns-in-8272584766690 c = rw c.in-8272584766690.is

pub returns-in-8277953475810 : goal.returns-in-8277953475810
unfolding key_word key_word_by forms key_of key ascii packed utf8 encoded
returns-in-8277953475810 c = rw c.in-8277953475810.is

pub returns-in-7895741232354 : goal.returns-in-7895741232354
unfolding key_word key_word_by forms key_of key ascii packed utf8 encoded
returns-in-7895741232354 c = rw c.in-7895741232354.is

pub returns-in-129372001461204194 : goal.returns-in-129372001461204194
unfolding key_word key_word_by forms key_of key ascii packed utf8 encoded
returns-in-129372001461204194 c = rw c.in-129372001461204194.is

pub returns-in-4012002 : goal.returns-in-4012002
unfolding key_word key_word_by forms key_of key ascii packed utf8 encoded
returns-in-4012002 c = rw c.in-4012002.is

pub returns-in-7896811042786 : goal.returns-in-7896811042786
unfolding key_word key_word_by forms key_of key ascii packed utf8 encoded
returns-in-7896811042786 c = rw c.in-7896811042786.is

pub returns-in-3944675 : goal.returns-in-3944675
unfolding key_word key_word_by forms key_of key ascii packed utf8 encoded
returns-in-3944675 c = rw c.in-3944675.is

pub returns-in-513536611 : goal.returns-in-513536611
unfolding key_word key_word_by forms key_of key ascii packed utf8 encoded
returns-in-513536611 c = rw c.in-513536611.is

pub returns-in-65474916963 : goal.returns-in-65474916963
unfolding key_word key_word_by forms key_of key ascii packed utf8 encoded
returns-in-65474916963 c = rw c.in-65474916963.is

pub returns-in-3830883 : goal.returns-in-3830883
unfolding key_word key_word_by forms key_of key ascii packed utf8 encoded
returns-in-3830883 c = rw c.in-3830883.is

pub returns-in-477934819 : goal.returns-in-477934819
unfolding key_word key_word_by forms key_of key ascii packed utf8 encoded
returns-in-477934819 c = rw c.in-477934819.is

pub returns-in-486258659 : goal.returns-in-486258659
unfolding key_word key_word_by forms key_of key ascii packed utf8 encoded
returns-in-486258659 c = rw c.in-486258659.is

pub returns-in-3947235 : goal.returns-in-3947235
unfolding key_word key_word_by forms key_of key ascii packed utf8 encoded
returns-in-3947235 c = rw c.in-3947235.is

pub returns-in-509386980 : goal.returns-in-509386980
unfolding key_word key_word_by forms key_of key ascii packed utf8 encoded
returns-in-509386980 c = rw c.in-509386980.is

pub returns-in-3797220 : goal.returns-in-3797220
unfolding key_word key_word_by forms key_of key ascii packed utf8 encoded
returns-in-3797220 c = rw c.in-3797220.is

pub returns-in-8342386372836 : goal.returns-in-8342386372836
unfolding key_word key_word_by forms key_of key ascii packed utf8 encoded
returns-in-8342386372836 c = rw c.in-8342386372836.is

pub returns-in-509391076 : goal.returns-in-509391076
unfolding key_word key_word_by forms key_of key ascii packed utf8 encoded
returns-in-509391076 c = rw c.in-509391076.is

pub returns-in-486044260 : goal.returns-in-486044260
unfolding key_word key_word_by forms key_of key ascii packed utf8 encoded
returns-in-486044260 c = rw c.in-486044260.is

pub returns-in-1067825455723108 : goal.returns-in-1067825455723108
unfolding key_word key_word_by forms key_of key ascii packed utf8 encoded
returns-in-1067825455723108 c = rw c.in-1067825455723108.is

pub returns-in-65474916964 : goal.returns-in-65474916964
unfolding key_word key_word_by forms key_of key ascii packed utf8 encoded
returns-in-65474916964 c = rw c.in-65474916964.is

pub returns-in-3879652 : goal.returns-in-3879652
unfolding key_word key_word_by forms key_of key ascii packed utf8 encoded
returns-in-3879652 c = rw c.in-3879652.is

pub returns-in-60643029732 : goal.returns-in-60643029732
unfolding key_word key_word_by forms key_of key ascii packed utf8 encoded
returns-in-60643029732 c = rw c.in-60643029732.is

pub returns-in-1006564202280164 : goal.returns-in-1006564202280164
unfolding key_word key_word_by forms key_of key ascii packed utf8 encoded
returns-in-1006564202280164 c = rw c.in-1006564202280164.is

pub returns-in-4044004 : goal.returns-in-4044004
unfolding key_word key_word_by forms key_of key ascii packed utf8 encoded
returns-in-4044004 c = rw c.in-4044004.is

pub returns-in-7895445779684 : goal.returns-in-7895445779684
unfolding key_word key_word_by forms key_of key ascii packed utf8 encoded
returns-in-7895445779684 c = rw c.in-7895445779684.is

pub returns-in-17861218492781295588 : goal.returns-in-17861218492781295588
unfolding key_word key_word_by forms key_of key ascii packed utf8 encoded
returns-in-17861218492781295588 c = rw c.in-17861218492781295588.is

pub returns-in-3880549 : goal.returns-in-3880549
unfolding key_word key_word_by forms key_of key ascii packed utf8 encoded
returns-in-3880549 c = rw c.in-3880549.is

pub returns-in-137807975428142821 : goal.returns-in-137807975428142821
unfolding key_word key_word_by forms key_of key ascii packed utf8 encoded
returns-in-137807975428142821 c = rw c.in-137807975428142821.is

pub returns-in-1010580540159845 : goal.returns-in-1010580540159845
unfolding key_word key_word_by forms key_of key ascii packed utf8 encoded
returns-in-1010580540159845 c = rw c.in-1010580540159845.is

pub returns-in-490535013 : goal.returns-in-490535013
unfolding key_word key_word_by forms key_of key ascii packed utf8 encoded
returns-in-490535013 c = rw c.in-490535013.is

pub returns-in-1050578213730405 : goal.returns-in-1050578213730405
unfolding key_word key_word_by forms key_of key ascii packed utf8 encoded
returns-in-1050578213730405 c = rw c.in-1050578213730405.is

pub returns-in-66257254629 : goal.returns-in-66257254629
unfolding key_word key_word_by forms key_of key ascii packed utf8 encoded
returns-in-66257254629 c = rw c.in-66257254629.is

pub returns-in-3701349 : goal.returns-in-3701349
unfolding key_word key_word_by forms key_of key ascii packed utf8 encoded
returns-in-3701349 c = rw c.in-3701349.is

pub returns-in-8380797844581 : goal.returns-in-8380797844581
unfolding key_word key_word_by forms key_of key ascii packed utf8 encoded
returns-in-8380797844581 c = rw c.in-8380797844581.is

pub returns-in-8138094589926 : goal.returns-in-8138094589926
unfolding key_word key_word_by forms key_of key ascii packed utf8 encoded
returns-in-8138094589926 c = rw c.in-8138094589926.is

pub returns-in-64139032934 : goal.returns-in-64139032934
unfolding key_word key_word_by forms key_of key ascii packed utf8 encoded
returns-in-64139032934 c = rw c.in-64139032934.is

pub returns-in-60628365543 : goal.returns-in-60628365543
unfolding key_word key_word_by forms key_of key ascii packed utf8 encoded
returns-in-60628365543 c = rw c.in-60628365543.is

pub returns-in-29415 : goal.returns-in-29415
unfolding key_word key_word_by forms key_of key ascii packed utf8 encoded
returns-in-29415 c = rw c.in-29415.is

pub returns-in-3961575 : goal.returns-in-3961575
unfolding key_word key_word_by forms key_of key ascii packed utf8 encoded
returns-in-3961575 c = rw c.in-3961575.is

pub returns-in-29671 : goal.returns-in-29671
unfolding key_word key_word_by forms key_of key ascii packed utf8 encoded
returns-in-29671 c = rw c.in-29671.is

pub returns-in-479754599 : goal.returns-in-479754599
unfolding key_word key_word_by forms key_of key ascii packed utf8 encoded
returns-in-479754599 c = rw c.in-479754599.is

pub returns-in-31335 : goal.returns-in-31335
unfolding key_word key_word_by forms key_of key ascii packed utf8 encoded
returns-in-31335 c = rw c.in-31335.is

pub returns-in-3111527 : goal.returns-in-3111527
unfolding key_word key_word_by forms key_of key ascii packed utf8 encoded
returns-in-3111527 c = rw c.in-3111527.is

pub returns-in-509386984 : goal.returns-in-509386984
unfolding key_word key_word_by forms key_of key ascii packed utf8 encoded
returns-in-509386984 c = rw c.in-509386984.is

pub returns-in-509391080 : goal.returns-in-509391080
unfolding key_word key_word_by forms key_of key ascii packed utf8 encoded
returns-in-509391080 c = rw c.in-509391080.is

pub returns-in-509112680 : goal.returns-in-509112680
unfolding key_word key_word_by forms key_of key ascii packed utf8 encoded
returns-in-509112680 c = rw c.in-509112680.is

pub returns-in-3781481 : goal.returns-in-3781481
unfolding key_word key_word_by forms key_of key ascii packed utf8 encoded
returns-in-3781481 c = rw c.in-3781481.is

pub returns-in-65730671849 : goal.returns-in-65730671849
unfolding key_word key_word_by forms key_of key ascii packed utf8 encoded
returns-in-65730671849 c = rw c.in-65730671849.is

pub returns-in-513520873 : goal.returns-in-513520873
unfolding key_word key_word_by forms key_of key ascii packed utf8 encoded
returns-in-513520873 c = rw c.in-513520873.is

pub returns-in-1072224049837801 : goal.returns-in-1072224049837801
unfolding key_word key_word_by forms key_of key ascii packed utf8 encoded
returns-in-1072224049837801 c = rw c.in-1072224049837801.is

pub returns-in-30569 : goal.returns-in-30569
unfolding key_word key_word_by forms key_of key ascii packed utf8 encoded
returns-in-30569 c = rw c.in-30569.is

pub returns-in-67085383529 : goal.returns-in-67085383529
unfolding key_word key_word_by forms key_of key ascii packed utf8 encoded
returns-in-67085383529 c = rw c.in-67085383529.is

pub returns-in-4011881 : goal.returns-in-4011881
unfolding key_word key_word_by forms key_of key ascii packed utf8 encoded
returns-in-4011881 c = rw c.in-4011881.is

pub returns-in-473774057 : goal.returns-in-473774057
unfolding key_word key_word_by forms key_of key ascii packed utf8 encoded
returns-in-473774057 c = rw c.in-473774057.is

pub returns-in-60634706155 : goal.returns-in-60634706155
unfolding key_word key_word_by forms key_of key ascii packed utf8 encoded
returns-in-60634706155 c = rw c.in-60634706155.is

pub returns-in-509386988 : goal.returns-in-509386988
unfolding key_word key_word_by forms key_of key ascii packed utf8 encoded
returns-in-509386988 c = rw c.in-509386988.is

pub returns-in-7757991997676 : goal.returns-in-7757991997676
unfolding key_word key_word_by forms key_of key ascii packed utf8 encoded
returns-in-7757991997676 c = rw c.in-7757991997676.is

pub returns-in-60609491180 : goal.returns-in-60609491180
unfolding key_word key_word_by forms key_of key ascii packed utf8 encoded
returns-in-60609491180 c = rw c.in-60609491180.is

pub returns-in-479965420 : goal.returns-in-479965420
unfolding key_word key_word_by forms key_of key ascii packed utf8 encoded
returns-in-479965420 c = rw c.in-479965420.is

pub returns-in-7897588936940 : goal.returns-in-7897588936940
unfolding key_word key_word_by forms key_of key ascii packed utf8 encoded
returns-in-7897588936940 c = rw c.in-7897588936940.is

pub returns-in-509391084 : goal.returns-in-509391084
unfolding key_word key_word_by forms key_of key ascii packed utf8 encoded
returns-in-509391084 c = rw c.in-509391084.is

pub returns-in-130528861341970924 : goal.returns-in-130528861341970924
unfolding key_word key_word_by forms key_of key ascii packed utf8 encoded
returns-in-130528861341970924 c = rw c.in-130528861341970924.is

pub returns-in-65474916972 : goal.returns-in-65474916972
unfolding key_word key_word_by forms key_of key ascii packed utf8 encoded
returns-in-65474916972 c = rw c.in-65474916972.is

pub returns-in-29420 : goal.returns-in-29420
unfolding key_word key_word_by forms key_of key ascii packed utf8 encoded
returns-in-29420 c = rw c.in-29420.is

pub returns-in-45342110444 : goal.returns-in-45342110444
unfolding key_word key_word_by forms key_of key ascii packed utf8 encoded
returns-in-45342110444 c = rw c.in-45342110444.is

pub returns-in-59032318700 : goal.returns-in-59032318700
unfolding key_word key_word_by forms key_of key ascii packed utf8 encoded
returns-in-59032318700 c = rw c.in-59032318700.is

pub returns-in-17861218492793598700 : goal.returns-in-17861218492793598700
unfolding key_word key_word_by forms key_of key ascii packed utf8 encoded
returns-in-17861218492793598700 c = rw c.in-17861218492793598700.is

pub returns-in-3961580 : goal.returns-in-3961580
unfolding key_word key_word_by forms key_of key ascii packed utf8 encoded
returns-in-3961580 c = rw c.in-3961580.is

pub returns-in-8345087587180 : goal.returns-in-8345087587180
unfolding key_word key_word_by forms key_of key ascii packed utf8 encoded
returns-in-8345087587180 c = rw c.in-8345087587180.is

pub returns-in-30316 : goal.returns-in-30316
unfolding key_word key_word_by forms key_of key ascii packed utf8 encoded
returns-in-30316 c = rw c.in-30316.is

pub returns-in-3979244 : goal.returns-in-3979244
unfolding key_word key_word_by forms key_of key ascii packed utf8 encoded
returns-in-3979244 c = rw c.in-3979244.is

pub returns-in-31340 : goal.returns-in-31340
unfolding key_word key_word_by forms key_of key ascii packed utf8 encoded
returns-in-31340 c = rw c.in-31340.is

pub returns-in-3111532 : goal.returns-in-3111532
unfolding key_word key_word_by forms key_of key ascii packed utf8 encoded
returns-in-3111532 c = rw c.in-3111532.is

pub returns-in-8376758729324 : goal.returns-in-8376758729324
unfolding key_word key_word_by forms key_of key ascii packed utf8 encoded
returns-in-8376758729324 c = rw c.in-8376758729324.is

pub returns-in-8243359002861 : goal.returns-in-8243359002861
unfolding key_word key_word_by forms key_of key ascii packed utf8 encoded
returns-in-8243359002861 c = rw c.in-8243359002861.is

pub returns-in-4010989 : goal.returns-in-4010989
unfolding key_word key_word_by forms key_of key ascii packed utf8 encoded
returns-in-4010989 c = rw c.in-4010989.is

pub returns-in-4011629 : goal.returns-in-4011629
unfolding key_word key_word_by forms key_of key ascii packed utf8 encoded
returns-in-4011629 c = rw c.in-4011629.is

pub returns-in-8378620917741 : goal.returns-in-8378620917741
unfolding key_word key_word_by forms key_of key ascii packed utf8 encoded
returns-in-8378620917741 c = rw c.in-8378620917741.is

pub returns-in-30829 : goal.returns-in-30829
unfolding key_word key_word_by forms key_of key ascii packed utf8 encoded
returns-in-30829 c = rw c.in-30829.is

pub returns-in-31469 : goal.returns-in-31469
unfolding key_word key_word_by forms key_of key ascii packed utf8 encoded
returns-in-31469 c = rw c.in-31469.is

pub returns-in-60626088174 : goal.returns-in-60626088174
unfolding key_word key_word_by forms key_of key ascii packed utf8 encoded
returns-in-60626088174 c = rw c.in-60626088174.is

pub returns-in-29422 : goal.returns-in-29422
unfolding key_word key_word_by forms key_of key ascii packed utf8 encoded
returns-in-29422 c = rw c.in-29422.is

pub returns-in-3797742 : goal.returns-in-3797742
unfolding key_word key_word_by forms key_of key ascii packed utf8 encoded
returns-in-3797742 c = rw c.in-3797742.is

pub returns-in-30574 : goal.returns-in-30574
unfolding key_word key_word_by forms key_of key ascii packed utf8 encoded
returns-in-30574 c = rw c.in-30574.is

pub returns-in-3913582 : goal.returns-in-3913582
unfolding key_word key_word_by forms key_of key ascii packed utf8 encoded
returns-in-3913582 c = rw c.in-3913582.is

pub returns-in-4012014 : goal.returns-in-4012014
unfolding key_word key_word_by forms key_of key ascii packed utf8 encoded
returns-in-4012014 c = rw c.in-4012014.is

pub returns-in-138951534061631470 : goal.returns-in-138951534061631470
unfolding key_word key_word_by forms key_of key ascii packed utf8 encoded
returns-in-138951534061631470 c = rw c.in-138951534061631470.is

pub returns-in-17575806961360648174 : goal.returns-in-17575806961360648174
unfolding key_word key_word_by forms key_of key ascii packed utf8 encoded
returns-in-17575806961360648174 c = rw c.in-17575806961360648174.is

pub returns-in-64109754350 : goal.returns-in-64109754350
unfolding key_word key_word_by forms key_of key ascii packed utf8 encoded
returns-in-64109754350 c = rw c.in-64109754350.is

pub returns-in-17639420064803141614 : goal.returns-in-17639420064803141614
unfolding key_word key_word_by forms key_of key ascii packed utf8 encoded
returns-in-17639420064803141614 c = rw c.in-17639420064803141614.is

pub returns-in-17639420545839478766 : goal.returns-in-17639420545839478766
unfolding key_word key_word_by forms key_of key ascii packed utf8 encoded
returns-in-17639420545839478766 c = rw c.in-17639420545839478766.is

pub returns-in-475888110 : goal.returns-in-475888110
unfolding key_word key_word_by forms key_of key ascii packed utf8 encoded
returns-in-475888110 c = rw c.in-475888110.is

pub returns-in-17423251783242578414 : goal.returns-in-17423251783242578414
unfolding key_word key_word_by forms key_of key ascii packed utf8 encoded
returns-in-17423251783242578414 c = rw c.in-17423251783242578414.is

pub returns-in-505248238 : goal.returns-in-505248238
unfolding key_word key_word_by forms key_of key ascii packed utf8 encoded
returns-in-505248238 c = rw c.in-505248238.is

pub returns-in-17423251783271938542 : goal.returns-in-17423251783271938542
unfolding key_word key_word_by forms key_of key ascii packed utf8 encoded
returns-in-17423251783271938542 c = rw c.in-17423251783271938542.is

pub returns-in-31470 : goal.returns-in-31470
unfolding key_word key_word_by forms key_of key ascii packed utf8 encoded
returns-in-31470 c = rw c.in-31470.is

pub returns-in-21999 : goal.returns-in-21999
unfolding key_word key_word_by forms key_of key ascii packed utf8 encoded
returns-in-21999 c = rw c.in-21999.is

pub returns-in-22255 : goal.returns-in-22255
unfolding key_word key_word_by forms key_of key ascii packed utf8 encoded
returns-in-22255 c = rw c.in-22255.is

pub returns-in-22383 : goal.returns-in-22383
unfolding key_word key_word_by forms key_of key ascii packed utf8 encoded
returns-in-22383 c = rw c.in-22383.is

pub returns-in-513536623 : goal.returns-in-513536623
unfolding key_word key_word_by forms key_of key ascii packed utf8 encoded
returns-in-513536623 c = rw c.in-513536623.is

pub returns-in-8413525996783 : goal.returns-in-8413525996783
unfolding key_word key_word_by forms key_of key ascii packed utf8 encoded
returns-in-8413525996783 c = rw c.in-8413525996783.is

pub returns-in-65730671855 : goal.returns-in-65730671855
unfolding key_word key_word_by forms key_of key ascii packed utf8 encoded
returns-in-65730671855 c = rw c.in-65730671855.is

pub returns-in-513520879 : goal.returns-in-513520879
unfolding key_word key_word_by forms key_of key ascii packed utf8 encoded
returns-in-513520879 c = rw c.in-513520879.is

pub returns-in-60615653103 : goal.returns-in-60615653103
unfolding key_word key_word_by forms key_of key ascii packed utf8 encoded
returns-in-60615653103 c = rw c.in-60615653103.is

pub returns-in-8381055792879 : goal.returns-in-8381055792879
unfolding key_word key_word_by forms key_of key ascii packed utf8 encoded
returns-in-8381055792879 c = rw c.in-8381055792879.is

pub returns-in-30703 : goal.returns-in-30703
unfolding key_word key_word_by forms key_of key ascii packed utf8 encoded
returns-in-30703 c = rw c.in-30703.is

pub returns-in-65476966511 : goal.returns-in-65476966511
unfolding key_word key_word_by forms key_of key ascii packed utf8 encoded
returns-in-65476966511 c = rw c.in-65476966511.is

pub returns-in-8002534586863 : goal.returns-in-8002534586863
unfolding key_word key_word_by forms key_of key ascii packed utf8 encoded
returns-in-8002534586863 c = rw c.in-8002534586863.is

pub returns-in-8376758729327 : goal.returns-in-8376758729327
unfolding key_word key_word_by forms key_of key ascii packed utf8 encoded
returns-in-8376758729327 c = rw c.in-8376758729327.is

pub returns-in-31855 : goal.returns-in-31855
unfolding key_word key_word_by forms key_of key ascii packed utf8 encoded
returns-in-31855 c = rw c.in-31855.is

pub returns-in-1041300302115056 : goal.returns-in-1041300302115056
unfolding key_word key_word_by forms key_of key ascii packed utf8 encoded
returns-in-1041300302115056 c = rw c.in-1041300302115056.is

pub returns-in-3830896 : goal.returns-in-3830896
unfolding key_word key_word_by forms key_of key ascii packed utf8 encoded
returns-in-3830896 c = rw c.in-3830896.is

pub returns-in-29936 : goal.returns-in-29936
unfolding key_word key_word_by forms key_of key ascii packed utf8 encoded
returns-in-29936 c = rw c.in-29936.is

pub returns-in-30448 : goal.returns-in-30448
unfolding key_word key_word_by forms key_of key ascii packed utf8 encoded
returns-in-30448 c = rw c.in-30448.is

pub returns-in-477722992 : goal.returns-in-477722992
unfolding key_word key_word_by forms key_of key ascii packed utf8 encoded
returns-in-477722992 c = rw c.in-477722992.is

pub returns-in-8308018215280 : goal.returns-in-8308018215280
unfolding key_word key_word_by forms key_of key ascii packed utf8 encoded
returns-in-8308018215280 c = rw c.in-8308018215280.is

pub returns-in-61702044016 : goal.returns-in-61702044016
unfolding key_word key_word_by forms key_of key ascii packed utf8 encoded
returns-in-61702044016 c = rw c.in-61702044016.is

pub returns-in-479983984 : goal.returns-in-479983984
unfolding key_word key_word_by forms key_of key ascii packed utf8 encoded
returns-in-479983984 c = rw c.in-479983984.is

pub returns-in-505149808 : goal.returns-in-505149808
unfolding key_word key_word_by forms key_of key ascii packed utf8 encoded
returns-in-505149808 c = rw c.in-505149808.is

pub returns-in-8243352697200 : goal.returns-in-8243352697200
unfolding key_word key_word_by forms key_of key ascii packed utf8 encoded
returns-in-8243352697200 c = rw c.in-8243352697200.is

pub returns-in-3832304 : goal.returns-in-3832304
unfolding key_word key_word_by forms key_of key ascii packed utf8 encoded
returns-in-3832304 c = rw c.in-3832304.is

pub returns-in-61408639217 : goal.returns-in-61408639217
unfolding key_word key_word_by forms key_of key ascii packed utf8 encoded
returns-in-61408639217 c = rw c.in-61408639217.is

pub returns-in-479754993 : goal.returns-in-479754993
unfolding key_word key_word_by forms key_of key ascii packed utf8 encoded
returns-in-479754993 c = rw c.in-479754993.is

pub returns-in-509386994 : goal.returns-in-509386994
unfolding key_word key_word_by forms key_of key ascii packed utf8 encoded
returns-in-509386994 c = rw c.in-509386994.is

pub returns-in-7897588936946 : goal.returns-in-7897588936946
unfolding key_word key_word_by forms key_of key ascii packed utf8 encoded
returns-in-7897588936946 c = rw c.in-7897588936946.is

pub returns-in-509391090 : goal.returns-in-509391090
unfolding key_word key_word_by forms key_of key ascii packed utf8 encoded
returns-in-509391090 c = rw c.in-509391090.is

pub returns-in-130528861341970930 : goal.returns-in-130528861341970930
unfolding key_word key_word_by forms key_of key ascii packed utf8 encoded
returns-in-130528861341970930 c = rw c.in-130528861341970930.is

pub returns-in-8345087587186 : goal.returns-in-8345087587186
unfolding key_word key_word_by forms key_of key ascii packed utf8 encoded
returns-in-8345087587186 c = rw c.in-8345087587186.is

pub returns-in-3929202 : goal.returns-in-3929202
unfolding key_word key_word_by forms key_of key ascii packed utf8 encoded
returns-in-3929202 c = rw c.in-3929202.is

pub returns-in-5838154102002 : goal.returns-in-5838154102002
unfolding key_word key_word_by forms key_of key ascii packed utf8 encoded
returns-in-5838154102002 c = rw c.in-5838154102002.is

pub returns-in-7624860497138 : goal.returns-in-7624860497138
unfolding key_word key_word_by forms key_of key ascii packed utf8 encoded
returns-in-7624860497138 c = rw c.in-7624860497138.is

pub returns-in-8376758729330 : goal.returns-in-8376758729330
unfolding key_word key_word_by forms key_of key ascii packed utf8 encoded
returns-in-8376758729330 c = rw c.in-8376758729330.is

pub returns-in-137315218110624499 : goal.returns-in-137315218110624499
unfolding key_word key_word_by forms key_of key ascii packed utf8 encoded
returns-in-137315218110624499 c = rw c.in-137315218110624499.is

pub returns-in-60628268275 : goal.returns-in-60628268275
unfolding key_word key_word_by forms key_of key ascii packed utf8 encoded
returns-in-60628268275 c = rw c.in-60628268275.is

pub returns-in-3896563 : goal.returns-in-3896563
unfolding key_word key_word_by forms key_of key ascii packed utf8 encoded
returns-in-3896563 c = rw c.in-3896563.is

pub returns-in-7899187083507 : goal.returns-in-7899187083507
unfolding key_word key_word_by forms key_of key ascii packed utf8 encoded
returns-in-7899187083507 c = rw c.in-7899187083507.is

pub returns-in-509114995 : goal.returns-in-509114995
unfolding key_word key_word_by forms key_of key ascii packed utf8 encoded
returns-in-509114995 c = rw c.in-509114995.is

pub returns-in-3717875 : goal.returns-in-3717875
unfolding key_word key_word_by forms key_of key ascii packed utf8 encoded
returns-in-3717875 c = rw c.in-3717875.is

pub returns-in-481868531 : goal.returns-in-481868531
unfolding key_word key_word_by forms key_of key ascii packed utf8 encoded
returns-in-481868531 c = rw c.in-481868531.is

pub returns-in-8411130936051 : goal.returns-in-8411130936051
unfolding key_word key_word_by forms key_of key ascii packed utf8 encoded
returns-in-8411130936051 c = rw c.in-8411130936051.is

pub returns-in-136119154556582643 : goal.returns-in-136119154556582643
unfolding key_word key_word_by forms key_of key ascii packed utf8 encoded
returns-in-136119154556582643 c = rw c.in-136119154556582643.is

pub returns-in-477690611 : goal.returns-in-477690611
unfolding key_word key_word_by forms key_of key ascii packed utf8 encoded
returns-in-477690611 c = rw c.in-477690611.is

pub returns-in-8308018182899 : goal.returns-in-8308018182899
unfolding key_word key_word_by forms key_of key ascii packed utf8 encoded
returns-in-8308018182899 c = rw c.in-8308018182899.is

pub returns-in-3898099 : goal.returns-in-3898099
unfolding key_word key_word_by forms key_of key ascii packed utf8 encoded
returns-in-3898099 c = rw c.in-3898099.is

pub returns-in-3947251 : goal.returns-in-3947251
unfolding key_word key_word_by forms key_of key ascii packed utf8 encoded
returns-in-3947251 c = rw c.in-3947251.is

pub returns-in-482097907 : goal.returns-in-482097907
unfolding key_word key_word_by forms key_of key ascii packed utf8 encoded
returns-in-482097907 c = rw c.in-482097907.is

pub returns-in-8411131165427 : goal.returns-in-8411131165427
unfolding key_word key_word_by forms key_of key ascii packed utf8 encoded
returns-in-8411131165427 c = rw c.in-8411131165427.is

pub returns-in-136119154556812019 : goal.returns-in-136119154556812019
unfolding key_word key_word_by forms key_of key ascii packed utf8 encoded
returns-in-136119154556812019 c = rw c.in-136119154556812019.is

pub returns-in-4026612 : goal.returns-in-4026612
unfolding key_word key_word_by forms key_of key ascii packed utf8 encoded
returns-in-4026612 c = rw c.in-4026612.is

pub returns-in-16565857044584297588 : goal.returns-in-16565857044584297588
unfolding key_word key_word_by forms key_of key ascii packed utf8 encoded
returns-in-16565857044584297588 c = rw c.in-16565857044584297588.is

pub returns-in-60642915444 : goal.returns-in-60642915444
unfolding key_word key_word_by forms key_of key ascii packed utf8 encoded
returns-in-60642915444 c = rw c.in-60642915444.is

pub returns-in-16557351569978979444 : goal.returns-in-16557351569978979444
unfolding key_word key_word_by forms key_of key ascii packed utf8 encoded
returns-in-16557351569978979444 c = rw c.in-16557351569978979444.is

pub returns-in-65443427572 : goal.returns-in-65443427572
unfolding key_word key_word_by forms key_of key ascii packed utf8 encoded
returns-in-65443427572 c = rw c.in-65443427572.is

pub returns-in-30708 : goal.returns-in-30708
unfolding key_word key_word_by forms key_of key ascii packed utf8 encoded
returns-in-30708 c = rw c.in-30708.is

pub returns-in-3946484 : goal.returns-in-3946484
unfolding key_word key_word_by forms key_of key ascii packed utf8 encoded
returns-in-3946484 c = rw c.in-3946484.is

pub returns-in-129394097142790516 : goal.returns-in-129394097142790516
unfolding key_word key_word_by forms key_of key ascii packed utf8 encoded
returns-in-129394097142790516 c = rw c.in-129394097142790516.is

pub returns-in-509386997 : goal.returns-in-509386997
unfolding key_word key_word_by forms key_of key ascii packed utf8 encoded
returns-in-509386997 c = rw c.in-509386997.is

pub returns-in-509391093 : goal.returns-in-509391093
unfolding key_word key_word_by forms key_of key ascii packed utf8 encoded
returns-in-509391093 c = rw c.in-509391093.is

pub returns-in-1090162261522549 : goal.returns-in-1090162261522549
unfolding key_word key_word_by forms key_of key ascii packed utf8 encoded
returns-in-1090162261522549 c = rw c.in-1090162261522549.is

pub returns-in-1050578213730421 : goal.returns-in-1050578213730421
unfolding key_word key_word_by forms key_of key ascii packed utf8 encoded
returns-in-1050578213730421 c = rw c.in-1050578213730421.is

pub returns-in-31477 : goal.returns-in-31477
unfolding key_word key_word_by forms key_of key ascii packed utf8 encoded
returns-in-31477 c = rw c.in-31477.is

pub returns-in-4029173 : goal.returns-in-4029173
unfolding key_word key_word_by forms key_of key ascii packed utf8 encoded
returns-in-4029173 c = rw c.in-4029173.is

pub returns-in-127160195284250870 : goal.returns-in-127160195284250870
unfolding key_word key_word_by forms key_of key ascii packed utf8 encoded
returns-in-127160195284250870 c = rw c.in-127160195284250870.is

pub returns-in-8033973088502 : goal.returns-in-8033973088502
unfolding key_word key_word_by forms key_of key ascii packed utf8 encoded
returns-in-8033973088502 c = rw c.in-8033973088502.is

pub returns-in-62782222582 : goal.returns-in-62782222582
unfolding key_word key_word_by forms key_of key ascii packed utf8 encoded
returns-in-62782222582 c = rw c.in-62782222582.is

pub returns-in-8240135713014 : goal.returns-in-8240135713014
unfolding key_word key_word_by forms key_of key ascii packed utf8 encoded
returns-in-8240135713014 c = rw c.in-8240135713014.is

pub returns-in-127177411411095798 : goal.returns-in-127177411411095798
unfolding key_word key_word_by forms key_of key ascii packed utf8 encoded
returns-in-127177411411095798 c = rw c.in-127177411411095798.is

pub returns-in-62519800438 : goal.returns-in-62519800438
unfolding key_word key_word_by forms key_of key ascii packed utf8 encoded
returns-in-62519800438 c = rw c.in-62519800438.is

pub returns-in-65474916982 : goal.returns-in-65474916982
unfolding key_word key_word_by forms key_of key ascii packed utf8 encoded
returns-in-65474916982 c = rw c.in-65474916982.is

pub returns-in-3764982 : goal.returns-in-3764982
unfolding key_word key_word_by forms key_of key ascii packed utf8 encoded
returns-in-3764982 c = rw c.in-3764982.is

pub returns-in-31606 : goal.returns-in-31606
unfolding key_word key_word_by forms key_of key ascii packed utf8 encoded
returns-in-31606 c = rw c.in-31606.is

pub returns-in-4045686 : goal.returns-in-4045686
unfolding key_word key_word_by forms key_of key ascii packed utf8 encoded
returns-in-4045686 c = rw c.in-4045686.is

pub returns-in-61689377527 : goal.returns-in-61689377527
unfolding key_word key_word_by forms key_of key ascii packed utf8 encoded
returns-in-61689377527 c = rw c.in-61689377527.is

pub returns-in-29944 : goal.returns-in-29944
unfolding key_word key_word_by forms key_of key ascii packed utf8 encoded
returns-in-29944 c = rw c.in-29944.is

pub returns-in-31864 : goal.returns-in-31864
unfolding key_word key_word_by forms key_of key ascii packed utf8 encoded
returns-in-31864 c = rw c.in-31864.is

pub returns-in-473772794 : goal.returns-in-473772794
unfolding key_word key_word_by forms key_of key ascii packed utf8 encoded
returns-in-473772794 c = rw c.in-473772794.is

pub returns-in-23931 : goal.returns-in-23931
unfolding key_word key_word_by forms key_of key ascii packed utf8 encoded
returns-in-23931 c = rw c.in-23931.is

pub returns-in-2840316 : goal.returns-in-2840316
unfolding key_word key_word_by forms key_of key ascii packed utf8 encoded
returns-in-2840316 c = rw c.in-2840316.is

pub returns-in-3118844 : goal.returns-in-3118844
unfolding key_word key_word_by forms key_of key ascii packed utf8 encoded
returns-in-3118844 c = rw c.in-3118844.is

pub returns-in-23932 : goal.returns-in-23932
unfolding key_word key_word_by forms key_of key ascii packed utf8 encoded
returns-in-23932 c = rw c.in-23932.is

pub returns-in-3104508 : goal.returns-in-3104508
unfolding key_word key_word_by forms key_of key ascii packed utf8 encoded
returns-in-3104508 c = rw c.in-3104508.is

pub returns-in-3088252 : goal.returns-in-3088252
unfolding key_word key_word_by forms key_of key ascii packed utf8 encoded
returns-in-3088252 c = rw c.in-3088252.is

pub returns-in-529473404 : goal.returns-in-529473404
unfolding key_word key_word_by forms key_of key ascii packed utf8 encoded
returns-in-529473404 c = rw c.in-529473404.is

pub returns-in-3665916 : goal.returns-in-3665916
unfolding key_word key_word_by forms key_of key ascii packed utf8 encoded
returns-in-3665916 c = rw c.in-3665916.is

pub returns-in-32636 : goal.returns-in-32636
unfolding key_word key_word_by forms key_of key ascii packed utf8 encoded
returns-in-32636 c = rw c.in-32636.is

pub returns-in-254 : goal.returns-in-254
unfolding key_word key_word_by forms key_of key ascii packed utf8 encoded
returns-in-254 c = rw c.in-254.is

pub returns-in-24318 : goal.returns-in-24318
unfolding key_word key_word_by forms key_of key ascii packed utf8 encoded
returns-in-24318 c = rw c.in-24318.is

pub returns-in-32382 : goal.returns-in-32382
unfolding key_word key_word_by forms key_of key ascii packed utf8 encoded
returns-in-32382 c = rw c.in-32382.is

pub returns-in-32638 : goal.returns-in-32638
unfolding key_word key_word_by forms key_of key ascii packed utf8 encoded
returns-in-32638 c = rw c.in-32638.is

pub returns-in_default : goal.returns-in_default
unfolding NoRow forms key_of key ascii utf8 encoded
returns-in_default c = no_row _ c.in_default.in_default-own.rest
